-- The contracts of `text` determine what a call gives: one theorem for each public function. Assumes nothing.
use Rattle.std.specs.Prelude.{ℕ, ◌≡◌, Bool, List, cond, drop, Option, is_some}
use mathlib.Core.Path.{refl, sym, ap, ◌∙◌}
use Rattle.determined.specs.Determines.{DeterminesSeen, Determines}
use Rattle.laws.proofs.One.{alike}
use Rattle.text.proofs.find.Kinds as find-kinds
use Rattle.text.proofs.find.Reads as find-reads
use Rattle.text.proofs.find_far.Kinds as find-far-kinds
use Rattle.text.proofs.find_far.Reads as find-far-reads
use Rattle.text.proofs.fields.Fields.of.Kinds as fields-of-kinds
use Rattle.text.proofs.fields.Fields.of.Reads as fields-of-reads
use Rattle.text.proofs.fields.Fields.is_empty.Kinds as fields-is-empty-kinds
use Rattle.text.proofs.fields.Fields.is_empty.Reads as fields-is-empty-reads
use Rattle.text.proofs.fields.Fields.next_field.Kinds as fields-next-field-kinds
use Rattle.text.proofs.fields.Fields.next_field.Reads as fields-next-field-reads
use Rattle.text.proofs.fields.Fields.passes.Kinds as fields-passes-kinds
use Rattle.text.proofs.fields.Fields.passes.Reads as fields-passes-reads
use Rattle.text.proofs.fields.Fields.number.Kinds as fields-number-kinds
use Rattle.text.proofs.fields.Fields.number.Reads as fields-number-reads
use Rattle.text.proofs.fields.Fields.name.Kinds as fields-name-kinds
use Rattle.text.proofs.fields.Fields.name.Reads as fields-name-reads
use Rattle.text.proofs.fields.Fields.firm.Kinds as fields-firm-kinds
use Rattle.text.proofs.fields.Fields.firm.Reads as fields-firm-reads
use Rattle.text.proofs.fields.Fields.root.Kinds as fields-root-kinds
use Rattle.text.proofs.fields.Fields.root.Reads as fields-root-reads
use Rattle.text.proofs.is_field.Kinds as is-field-kinds
use Rattle.text.proofs.is_field.Reads as is-field-reads
use Rattle.text.proofs.firm_name.Kinds as firm-name-kinds
use Rattle.text.proofs.firm_name.Reads as firm-name-reads
use Rattle.text.proofs.root_name.Kinds as root-name-kinds
use Rattle.text.proofs.root_name.Reads as root-name-reads
use Rattle.text.proofs.decimal_size.Kinds as decimal-size-kinds
use Rattle.text.proofs.decimal_size.Reads as decimal-size-reads
use Rattle.text.proofs.name_size.Kinds as name-size-kinds
use Rattle.text.proofs.name_size.Reads as name-size-reads
use Rattle.text.proofs.put_words.Kinds as put-words-kinds
use Rattle.text.proofs.put_words.Reads as put-words-reads
use Rattle.text.proofs.put_name.Kinds as put-name-kinds
use Rattle.text.proofs.put_name.Reads as put-name-reads
use Rattle.text.proofs.put_decimal.Kinds as put-decimal-kinds
use Rattle.text.proofs.put_decimal.Reads as put-decimal-reads

pub find : Determines 1 find-kinds.ps find-kinds.r find-reads.Asked find-reads.Learnt
find κs args asked x y u v p q = (alike p q, refl)

pub find-far : Determines 1 find-far-kinds.ps find-far-kinds.r find-far-reads.Asked find-far-reads.Learnt
find-far κs args asked x y u v p q = (alike p q, refl)

-- which fields are left follows from whether one was passed, or read
left-passed : {A : Type 0} (old : List A) {now then : List A} {x y : Bool} → x ≡ y → now ≡ cond x (drop 1 old) old → then ≡ cond y (drop 1 old) old → now ≡ then
left-passed old e p q = p ∙ ap (λ (r : Bool). cond r (drop 1 old) old) e ∙ sym q

left-alike : {A : Type 0} (old : List A) {now then : List A} {x y : Option ℕ} → x ≡ y → now ≡ cond (is_some x) (drop 1 old) old → then ≡ cond (is_some y) (drop 1 old) old → now ≡ then
left-alike old e p q = left-passed old (ap is_some e) p q

pub fields-of : Determines 1 fields-of-kinds.ps fields-of-kinds.r fields-of-reads.Asked fields-of-reads.Learnt
fields-of κs args asked x y u v p q = (alike p q, refl)

pub fields-is-empty : Determines 2 fields-is-empty-kinds.ps fields-is-empty-kinds.r fields-is-empty-reads.Asked fields-is-empty-reads.Learnt
fields-is-empty κs args asked x y u v p q = (alike p q, refl)

-- the answer is a part of the line that was lent: the bytes in it are determined, and where it lies is not said
pub fields-next-field : DeterminesSeen 2 fields-next-field-kinds.ps fields-next-field-kinds.r (λ κs. List ℕ) (λ κs part. part.now) fields-next-field-reads.Asked fields-next-field-reads.Learnt
fields-next-field κs args asked x y u v p q = (alike p.0 q.0, λ i. (alike p.1 q.1 i, v.1))

pub fields-passes : Determines 3 fields-passes-kinds.ps fields-passes-kinds.r fields-passes-reads.Asked fields-passes-reads.Learnt
fields-passes κs args asked x y u v p q = (alike p.0 q.0, λ i. (left-passed args.0.now (alike p.0 q.0) p.1 q.1 i, v.1))

pub fields-number : Determines 2 fields-number-kinds.ps fields-number-kinds.r fields-number-reads.Asked fields-number-reads.Learnt
fields-number κs args asked x y u v p q = (alike p.0 q.0, λ i. (left-alike args.0.now (alike p.0 q.0) p.1 q.1 i, v.1))

pub fields-name : Determines 2 fields-name-kinds.ps fields-name-kinds.r fields-name-reads.Asked fields-name-reads.Learnt
fields-name κs args asked x y u v p q = (alike p.0 q.0, λ i. (left-alike args.0.now (alike p.0 q.0) p.1 q.1 i, v.1))

pub fields-firm : Determines 2 fields-firm-kinds.ps fields-firm-kinds.r fields-firm-reads.Asked fields-firm-reads.Learnt
fields-firm κs args asked x y u v p q = (alike p.0 q.0, λ i. (left-alike args.0.now (alike p.0 q.0) p.1 q.1 i, v.1))

pub fields-root : Determines 2 fields-root-kinds.ps fields-root-kinds.r fields-root-reads.Asked fields-root-reads.Learnt
fields-root κs args asked x y u v p q = (alike p.0 q.0, λ i. (left-alike args.0.now (alike p.0 q.0) p.1 q.1 i, v.1))

pub is-field : Determines 2 is-field-kinds.ps is-field-kinds.r is-field-reads.Asked is-field-reads.Learnt
is-field κs args asked x y u v p q = (alike p q, refl)

pub firm-name : Determines 1 firm-name-kinds.ps firm-name-kinds.r firm-name-reads.Asked firm-name-reads.Learnt
firm-name κs args asked x y u v p q = (alike p q, refl)

pub root-name : Determines 1 root-name-kinds.ps root-name-kinds.r root-name-reads.Asked root-name-reads.Learnt
root-name κs args asked x y u v p q = (alike p q, refl)

pub decimal-size : Determines 0 decimal-size-kinds.ps decimal-size-kinds.r decimal-size-reads.Asked decimal-size-reads.Learnt
decimal-size κs args asked x y u v p q = (alike p q, refl)

pub name-size : Determines 0 name-size-kinds.ps name-size-kinds.r name-size-reads.Asked name-size-reads.Learnt
name-size κs args asked x y u v p q = (alike p q, refl)

pub put-words : Determines 2 put-words-kinds.ps put-words-kinds.r put-words-reads.Asked put-words-reads.Learnt
put-words κs args asked x y u v p q = (alike p.0 q.0, λ i. (v.0, (alike p.1 q.1 i, v.1.1)))

pub put-name : Determines 1 put-name-kinds.ps put-name-kinds.r put-name-reads.Asked put-name-reads.Learnt
put-name κs args asked x y u v p q = (alike p.0 q.0, λ i. (v.0, (alike p.1 q.1 i, v.1.1)))

pub put-decimal : Determines 1 put-decimal-kinds.ps put-decimal-kinds.r put-decimal-reads.Asked put-decimal-reads.Learnt
put-decimal κs args asked x y u v p q = (alike p.0 q.0, λ i. (v.0, (alike p.1 q.1 i, v.1.1)))
