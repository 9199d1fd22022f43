-- Reading after writing and writing after reading, once for every form of record. Assumes nothing.
use Prim.Native.Nat.{ℕ, ◌*◌, ◌≤◌, ◌<◌}
use mathlib.Core.Path.{◌≡◌, refl, sym, ap, ◌∙◌, subst}
use mathlib.Core.Bool.{Bool, true, false, cond}
use mathlib.Core.List.{List, ◌++◌}
use lib.ListN.{length, get_or, drop}
use lib.Dec.{eqb}
use borrow.Author.Tests.{eq-eqb, ne_eqb, eqb-true, le-leb, lt-leb}
use Rattle.laws.proofs.Tests.{and_l, and_r}
use Rattle.laws.specs.Lists.{same}
use Rattle.laws.proofs.Lists.{same-eq, same_refl}
use Rattle.bits.specs.Fields.{total, Fit, fields_of, bytes_of}
use Rattle.bits.proofs.Packing.{read-write, write_read, length-bytes, bytes_fit}
use Rattle.records.specs.Inner.Lawful.{Lawful}
use Rattle.records.specs.Form.{Form, read_fields, record_of, event_at, stands, accepts, wrote, written, wrote_values, written_values}
use Rattle.std.specs.declared.result.Result.TheVariants.{Ok, Err}
use Rattle.refusals.specs.declared.Refusal.{Refusal}
use Rattle.refusals.specs.declared.Refusal.TheVariants.{FaultyRecord}

-- what a test chose: a value where it passes, else a refusal
pub chosen : {A : Type 0} (t : Bool) (x y : A) (r : Refusal) → Ok y ≡ cond t (Ok x) (Err r) → (t ≡ true) × (y ≡ x)
chosen true x y r h = (refl, cc)
chosen false x y r h = absurd (cc)

pub refused : {A : Type 0} (t : Bool) (x : A) (q r : Refusal) → Err q ≡ cond t (Ok x) (Err r) → (t ≡ false) × (q ≡ r)
refused true x q r h = absurd (cc)
refused false x q r h = (refl, cc)

module _ {E : Type 0} (F : Form E) where
  -- values that are an event's are just its own, and it is valid
  pub stands-is : (v : List ℕ) → stands F v ≡ true → (v ≡ F.values (F.event v)) × (F.valid (F.event v) ≡ true)
  unfolding stands
  stands-is v h =
      let e = F.event v in
      (same-eq v (F.values e) (and_l (same v (F.values e)) (F.valid e) h), and_r (same v (F.values e)) (F.valid e) h)

  -- bytes that are a record have its size, and fields that are an event's
  pub accepts-is : (s : List ℕ) → accepts F s ≡ true → (length s ≡ F.size) × (stands F (fields_of F.widths s) ≡ true)
  unfolding accepts
  accepts-is s h =
      let t = stands F (fields_of F.widths s) in
      (eqb-true _ _ (and_l (eqb (length s) F.size) t h), and_r (eqb (length s) F.size) t h)

  pub accepts-full : (s : List ℕ) → length s ≡ F.size → accepts F s ≡ stands F (fields_of F.widths s)
  unfolding accepts
  accepts-full s l = rw (eq-eqb _ _ l)

  pub accepts-not : (s : List ℕ) → (length s ≡ F.size → ⊥) → accepts F s ≡ false
  unfolding accepts
  accepts-not s h = rw (ne_eqb _ _ h)

  -- a record's fields are its event's values, and that event is valid
  pub fields-are : (s : List ℕ) → accepts F s ≡ true → (fields_of F.widths s ≡ F.values (event_at F s)) × (F.valid (event_at F s) ≡ true)
  unfolding event_at
  fields-are s a = stands-is (fields_of F.widths s) (accepts-is s a).1

-- bytes whose fields are read, or refused
module _ {E : Type 0} (F : Form E) (s : List ℕ) where
  pub fields-read : (v : List ℕ) → Ok v ≡ read_fields F s → (accepts F s ≡ true) × (v ≡ fields_of F.widths s)
  unfolding read_fields
  fields-read v h = chosen (accepts F s) (fields_of F.widths s) v FaultyRecord h

  pub fields-refused : (r : Refusal) → Err r ≡ read_fields F s → (accepts F s ≡ false) × (r ≡ FaultyRecord)
  unfolding read_fields
  fields-refused r h = refused (accepts F s) (fields_of F.widths s) r FaultyRecord h

  pub fields-stand : (v : List ℕ) → Ok v ≡ read_fields F s → stands F v ≡ true
  fields-stand v h = let p = fields-read v h in ap (stands F) p.1 ∙ (accepts-is F s p.0).1

module _ {E : Type 0} (F : Form E) (w : Lawful F) where
  -- an event's values are an event's exactly if it is valid
  pub stands_of : (e : E) → stands F (F.values e) ≡ F.valid e
  unfolding stands
  stands_of e = rw (w.back e, same_refl (F.values e))

  -- values that are an event's fit their fields
  pub stands-fit : (v : List ℕ) → stands F v ≡ true → Fit F.widths v
  stands-fit v h = let p = stands-is F v h in subst (Fit F.widths) (sym p.0) (w.fit (F.event v) p.1)

  -- bytes that hold an event's values are its record
  pub read-values : (v : List ℕ) → stands F v ≡ true
      → (accepts F (bytes_of F.size F.widths v) ≡ true) × (fields_of F.widths (bytes_of F.size F.widths v) ≡ v)
  read-values v h =
      let r : fields_of F.widths (bytes_of F.size F.widths v) ≡ v = read-write F.size F.widths v w.full (stands-fit v h) in
      (accepts-full F _ (length-bytes F.size F.widths v) ∙ ap (stands F) r ∙ h, r)

  -- reading after writing changes nothing
  pub read_again_lem : (e : E) → F.valid e ≡ true → (accepts F (record_of F e) ≡ true) × (event_at F (record_of F e) ≡ e)
  unfolding event_at record_of
  read_again_lem e h =
      let r = read-values (F.values e) (stands_of e ∙ h) in
      (r.0, ap F.event r.1 ∙ w.back e)

  -- the fields of a record are written as the same bytes
  pub write-fields-again : (s : List ℕ) → ((i : ℕ) → get_or s i 0 < 256) → accepts F s ≡ true → bytes_of F.size F.widths (fields_of F.widths s) ≡ s
  write-fields-again s b h =
      let l = (accepts-is F s h).0 in
      ap (λ (k : ℕ). bytes_of k F.widths (fields_of F.widths s)) (sym l)
      ∙ write_read F.widths s (w.full ∙ ap (λ (k : ℕ). k * 8) (sym l)) (bytes_fit s b)

  -- writing after reading changes nothing
  pub write_again : (s : List ℕ) → ((i : ℕ) → get_or s i 0 < 256) → accepts F s ≡ true
      → (F.valid (event_at F s) ≡ true) × (record_of F (event_at F s) ≡ s)
  unfolding event_at record_of
  write_again s b h =
      let p = stands-is F (fields_of F.widths s) (accepts-is F s h).1 in
      (p.1, ap (bytes_of F.size F.widths) (sym p.0) ∙ write-fields-again s b h)

  -- two valid events with one record are equal
  pub record-inj : (e x : E) → F.valid e ≡ true → F.valid x ≡ true → record_of F e ≡ record_of F x → e ≡ x
  record-inj e x h k r = sym (read_again_lem e h).1 ∙ ap (event_at F) r ∙ (read_again_lem x k).1

  -- writing an event is writing its values
  pub wrote-values : (e : E) (n : ℕ) → wrote_values F (F.values e) n ≡ wrote F e n
  unfolding wrote_values wrote
  wrote-values e n = rw (stands_of e)

  pub written-values : (e : E) (room : List ℕ) → written_values F (F.values e) room ≡ written F e room
  unfolding written_values written record_of
  written-values e room = rw (stands_of e)
