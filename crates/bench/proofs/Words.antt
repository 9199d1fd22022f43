-- Memory stays memory of 64-bit numbers: a sound state's numbers have 64 bits, so Arm and the calls leave such. Assumes nothing.
use Prim.Native.Nat.{ℕ, zero, suc, ◌*◌, ◌-◌, ◌^◌, ◌≤◌, ◌<◌}
use native.Mathlib.Nat.{lt_of_lt_of_le}
use native.Mathlib.Omega.{arith}
use mathlib.Core.Path.{◌≡◌, sym, subst}
use mathlib.Core.Bool.{Bool, true, false}
use mathlib.Core.List.{List, [], ◌∷◌, ◌++◌}
use lib.ListN.{length, drop}
use lib.Dec.{ltb, lit<, lit≤}
use lib.Pow.{pow_mono}
use borrow.Author.Tests.{ltb-true}
use Rattle.laws.proofs.Tests.{and_l, and_r, tests, under}
use Rattle.measures.specs.Ranges.{times, totals}
use Rattle.bits.specs.Fields.{total}
use Rattle.bits.proofs.Packing.{packed_lt}
use Rattle.rules.specs.declared.Rule.{Rule}
use Rattle.rules.specs.declared.Account.{Account}
use Rattle.text.specs.Text.{is_name_byte}
use Rattle.tables.specs.Inner.Tables.{zeros, flat, table_numbers}
use Rattle.laws.specs.Folds.{every}
use Rattle.rules.specs.Amounts.{number_of}
use Rattle.rules.specs.Valid.{is_rule}
use Rattle.machine.proofs.Totals.{is_paid, total-in}
use Rattle.machine.specs.Entries.{is_entry}
use Rattle.machine.specs.declared.Entry.{Entry}
use Rattle.machine.specs.State.{State, roots_in}
use Rattle.machine.specs.Register.{is_sent}
use Rattle.machine.specs.declared.Sent.{Sent}
use Rattle.register.specs.SentPlace.{sent_widths, sent_values, open_values, sent_numbers}
use Rattle.register.specs.Register.{register_shape}
use Rattle.register.proofs.Shapes.{register-written}
use Rattle.register.proofs.SentPlace.{sent-fit, open-fit}
use Rattle.packing.specs.RulePlace.{limit_widths, limit_values, scope_widths, scope_values, rule_numbers, rules_shape}
use Rattle.packing.specs.EntryPlace.{fill_widths, fill_values, amount_widths, amount_values, entry_numbers, log_shape, flag_number}
use Rattle.shapes.specs.Shape.{cell, both, named, word, flag, rows, table as counted}
use Rattle.packing.proofs.Shapes.{rules-written, log-written}
use Rattle.packing.proofs.RulePlace.{limit-fit, scope-fit}
use Rattle.packing.proofs.EntryPlace.{fill-fit, amount-fit}
use Rattle.given.specs.Names.{name_bytes, is_name_number}
use Rattle.given.specs.Given.{are_roots}
use Rattle.text.proofs.Bytes.{made-most}
use Rattle.text.proofs.InBase.{digits-room}
use Rattle.given.specs.Parts.{totals_size}
use Rattle.state.specs.State.{size, number, marks_of, locks_shape, as_tuple, profile_shape, totals_shape, part_shape, numbers_shape, totals_in, numbers_of, encode, stored}
use Rattle.state.specs.Sound.{SoundState}
use Rattle.state.proofs.Exactly.{MadeParts}
use Rattle.bench.specs.Lent.{Below}

-- ---- numbers below a bound

pub below-append : (bound : ℕ) (xs ys : List ℕ) → Below bound xs → Below bound ys → Below bound (xs ++ ys)
below-append bound [] ys p q = q
below-append bound (x ∷ xs) ys p q = (p.0, below-append bound xs ys p.1 q)

pub below-drop : (bound n : ℕ) (xs : List ℕ) → Below bound xs → Below bound (drop n xs)
below-drop bound zero xs p = p
below-drop bound (suc n) [] p = tt
below-drop bound (suc n) (x ∷ xs) p = below-drop bound n xs p.1

pub below-zeros : (n : ℕ) → Below (2 ^ 64) (zeros n)
unfolding zeros
below-zeros zero = tt
below-zeros (suc n) = (lit< tt, below-zeros n)

-- a test of each
pub tested-below : (bound : ℕ) (xs : List ℕ) → every (λ x. ltb x bound) xs ≡ true → Below bound xs
unfolding every
tested-below bound [] h = tt
tested-below bound (x ∷ xs) h =
    (ltb-true x bound (and_l (ltb x bound) _ h), tested-below bound xs (and_r (ltb x bound) _ h))

-- the numbers of records that are valid
module _ {A : Type 0} (ok : A → Bool) (enc : A → List ℕ) (each : (a : A) → ok a ≡ true → Below (2 ^ 64) (enc a)) where
  below-flat : (rs : List A) → every ok rs ≡ true → Below (2 ^ 64) (flat enc rs)
  unfolding flat every
  below-flat [] h = tt
  below-flat (r ∷ rs) h =
      below-append (2 ^ 64) (enc r) (flat enc rs) (each r (and_l (ok r) (every ok rs) h)) (below-flat rs (and_r (ok r) (every ok rs) h))

  below-table : (w n : ℕ) (rs : List A) → every ok rs ≡ true → Below (2 ^ 64) (table_numbers w n enc rs)
  unfolding table_numbers
  below-table w n rs h = below-append (2 ^ 64) (flat enc rs) (zeros (n * w - length rs * w)) (below-flat rs h) (below-zeros (n * w - length rs * w))

-- ---- the parts of a state

rule-words : (roots : ℕ) → roots ≤ 64 → (rule : Rule) → is_rule roots rule ≡ true → Below (2 ^ 64) (rule_numbers rule)
unfolding rule_numbers total
rule-words roots few rule h =
    (packed_lt limit_widths (limit_values rule) (limit-fit roots rule few h), (packed_lt scope_widths (scope_values rule) (scope-fit roots rule few h), tt))

entry-words : (roots : ℕ) → roots ≤ 64 → (e : Entry) → is_entry roots e ≡ true → Below (2 ^ 64) (entry_numbers e)
unfolding entry_numbers total
entry-words roots few e h =
    (packed_lt fill_widths (fill_values e) (fill-fit roots e few h), (packed_lt amount_widths (amount_values e) (amount-fit roots e few h), tt))

sent-words : (roots : ℕ) → roots ≤ 64 → (sent : Sent) → is_sent roots sent ≡ true → Below (2 ^ 64) (sent_numbers sent)
unfolding sent_numbers total
sent-words roots few sent h =
    (packed_lt sent_widths (sent_values sent) (sent-fit roots sent few h), (packed_lt amount_widths (open_values sent) (open-fit roots sent few h), tt))

name-word : (most n : ℕ) → most ≤ 7 → is_name_number 1 most n ≡ true → n < 2 ^ 64
unfolding is_name_number name_bytes
name-word most n few h = digits-room 256 (lit< tt) 8 n (omega (arith, made-most is_name_byte 1 most (name_bytes n) h))

names-words : (names : List ℕ) → are_roots names ≡ true → Below (2 ^ 64) names
unfolding are_roots
names-words [] h = tt
names-words (n ∷ names) h = (name-word 6 n (lit≤ tt) (search tests depth 6), names-words names (search tests depth 6))

totals-words : (accounts : List Account) → every is_paid accounts ≡ true → Below (2 ^ 64) (totals_in accounts)
unfolding every
totals-words [] h = tt
totals-words (a ∷ rest) h = (
  under (number_of a.total) totals.most 64 (total-in a.rule a.total (and_l (is_paid a) (every is_paid rest) h)).1.1 tt,
  totals-words rest (and_r (is_paid a) (every is_paid rest) h),
)

-- numbers in places of one
flat-ones : (xs : List ℕ) → Below (2 ^ 64) xs → Below (2 ^ 64) (flat (λ x. x ∷ []) xs)
unfolding flat
flat-ones [] p = tt
flat-ones (x ∷ xs) p = (p.0, flat-ones xs p.1)

ones-words : (n : ℕ) (xs : List ℕ) → Below (2 ^ 64) xs → Below (2 ^ 64) (table_numbers 1 n (λ x. x ∷ []) xs)
unfolding table_numbers
ones-words n xs p = below-append (2 ^ 64) (flat (λ x. x ∷ []) xs) (zeros (n * 1 - length xs * 1)) (flat-ones xs p) (below-zeros (n * 1 - length xs * 1))

flag_word : (b : Bool) → flag_number b < 2 ^ 64
flag_word true = lit< tt
flag_word false = lit< tt

module _ (s : State) (k : SoundState s) (m : MadeParts s.part.profile) where
  abbrev n : ℕ
  n = length s.part.profile.roots

  abbrev rules : List Rule
  rules = s.part.profile.rules

  abbrev sums : List ℕ
  sums = totals_in s.part.accounts

  few : length s.part.profile.roots ≤ 64
  few = m.few

  roots-words : Below (2 ^ 64) ((counted 64 number).write s.part.profile.roots)
  unfolding counted named both rows cell number table_numbers
  roots-words = (under n 64 64 few tt, ones-words 64 s.part.profile.roots (names-words s.part.profile.roots m.names))

  rules-words : Below (2 ^ 64) ((rules_shape n).write rules)
  rules-words =
      subst (Below (2 ^ 64)) (sym (rules-written n rules))
      (under (length rules) 256 64 m.most tt, below-table (is_rule n) rule_numbers (rule-words n few) 2 256 rules m.valid)

  profile-words : Below (2 ^ 64) (profile_shape.write s.part.profile)
  unfolding profile_shape as_tuple named both number cell
  profile-words = (name-word 4 s.part.profile.firm (lit≤ tt) m.firm, below-append (2 ^ 64) ((counted 64 number).write s.part.profile.roots) ((rules_shape n).write rules) roots-words rules-words)

  sums-words : Below (2 ^ 64) ((totals_shape rules).write sums)
  unfolding totals_shape rows cell number table_numbers
  sums-words = ones-words totals_size sums (totals-words s.part.accounts k.totals)

  locks-words : Below (2 ^ 64) (locks_shape.write s.part.locks)
  unfolding locks_shape marks_of named both word flag number cell roots_in
  locks-words = (
    flag_word s.part.locks.firm_tripped,
    (flag_word s.part.locks.firm_by_user, (lt_of_lt_of_le k.tripped (pow_mono few), (lt_of_lt_of_le k.by_user (pow_mono few), tt))),
  )

  register-words : Below (2 ^ 64) ((register_shape n).write s.part.register)
  unfolding roots_in
  register-words =
      subst (Below (2 ^ 64)) (sym (register-written n s.part.register))
      (under (length s.part.register) 64 64 k.few tt, below-table (is_sent n) sent_numbers (sent-words n few) 2 64 s.part.register k.registered)

  log-words : Below (2 ^ 64) ((log_shape n).write s.log)
  unfolding roots_in
  log-words =
      subst (Below (2 ^ 64)) (sym (log-written n s.log))
      (under (length s.log) 512 64 k.number tt, below-table (is_entry n) entry_numbers (entry-words n few) 2 512 s.log k.entries)

  encode-words : Below (2 ^ 64) (encode s)
  unfolding encode numbers_of numbers_shape part_shape both number cell
  encode-words =
      let clock = under s.part.clock times.most 64 k.clock.1 tt in
      let sums-then = (totals_shape rules).write sums in
      let locks-then = locks_shape.write s.part.locks in
      let register-then = (register_shape n).write s.part.register in
      let profile-then = profile_shape.write s.part.profile in
      let marks = below-append (2 ^ 64) locks-then register-then locks-words register-words in
      let rest =
      below-append (2 ^ 64) profile-then (sums-then ++ (locks-then ++ register-then)) profile-words
      (below-append (2 ^ 64) sums-then (locks-then ++ register-then) sums-words marks) in
      (lit< tt, (clock, below-append (2 ^ 64) (profile-then ++ (sums-then ++ (locks-then ++ register-then))) ((log_shape n).write s.log) rest log-words))

  pub stored-words : (xs : List ℕ) → Below (2 ^ 64) xs → Below (2 ^ 64) (stored s xs)
  unfolding stored
  stored-words xs p = below-append (2 ^ 64) (encode s) (drop size xs) encode-words (below-drop (2 ^ 64) size xs p)
