-- The walk over the lines of a text: what is left decides the outcome of the whole, after each line and at the end. Assumes nothing.
use Prim.Native.Nat.{ℕ, ◌+◌, ◌≤◌, ◌<◌}
use mathlib.Core.Path.{◌≡◌, refl, sym, ap, ◌∙◌}
use mathlib.Core.Bool.{true, false, cond}
use lib.Dec.{eqb}
use mathlib.Core.List.{List, []}
use lib.ListN.{length, get_or, drop, replicate}
use borrow.Author.Tests.{ne_eqb}
use native.Mathlib.Omega.{arith}
use Rattle.std.specs.declared.result.Result.TheVariants.{Ok, Err}
use Rattle.measures.specs.Ranges.{◌to◌, is_in}
use Rattle.laws.proofs.Lists.{ended}
use Rattle.rules.specs.declared.Rule.{Rule}
use Rattle.text.specs.Text.{pieces, lines}
use Rattle.reader.specs.Lines.{line_from}
use Rattle.reader.proofs.Lines.{line_on, line-inside}
use Rattle.line.specs.Line.{firm_in, line_of, any_line}
use Rattle.line.proofs.Laws.{any-line}
use Rattle.tables.specs.Inner.Tables.{zeros, flat, table_numbers}
use Rattle.std.specs.Prelude.{Ok, Err}
use Rattle.line.proofs.Laws.{line_refused}
use Rattle.admission.specs.Admission.{how_many}
use Rattle.profile.specs.Profile.{joined, Outcome, after_line, read_on, start_of, firm_beside, outcome_beside, reading_of, roots_table, scan_beside, scan_told}
use Rattle.machine.specs.State.{Profile}
use Rattle.admission.specs.Inner.Counting.{no_rules}
use Rattle.profile.specs.Inner.Held.{Stored, Held, Joins, ReadingTold}
use Rattle.profile.specs.Reading.{Accepted, Refused, reading_told}
use Rattle.profile.specs.declared.Fault.{Fault}
use Rattle.profile.specs.declared.Scan.{Scan}
use Rattle.refusals.specs.declared.Refusal.TheVariants.{ProfileLength}
use Rattle.admission.specs.declared.Tally.{Tally}
use Rattle.std.specs.Prelude.{Option}
use Rattle.std.specs.declared.option.Option.TheVariants.{None, Some}
use Rattle.admission.proofs.Joining.{none_so_far}
use Rattle.profile.proofs.Joined.{start-lawful, joined_length}

-- a profile of the firm is held, and the lines from a place on lead from it to the outcome of the whole text
pub record Walk (text : List ℕ) (firm : ℕ) (tally : Tally) (at : ℕ) (roots rules counts : List ℕ) : Type 0 where
  pub profile : Profile
  pub held : Held profile tally roots rules counts
  pub own : profile.firm ≡ firm
  pub reach : at ≤ length text + 1
  pub rest : read_on (start_of firm) 0 (lines text) ≡ read_on profile tally.rules (lines (drop at text))

pub walk_start : (text : List ℕ) (firm : ℕ) {roots rules counts : List ℕ} → Held (start_of firm) no_rules roots rules counts → Walk text firm no_rules 0 roots rules counts
walk_start text firm held = record { profile = start_of firm; held = held; own = refl; reach = omega arith; rest = refl }

-- nothing was read yet: all is 0
pub start-held : (firm : ℕ) → Held (start_of firm) no_rules (replicate 64 0) (replicate 512 0) (replicate 64 0)
unfolding how_many roots_table table_numbers flat zeros
start-held firm = record {
  lawful = start-lawful firm;
  stored = record { roots-in = refl; rules-in = refl };
  roots-are = refl;
  so_far = none_so_far;
}

-- a text whose size is none for a profile, and one that was read by its lines
module _ (other : ℕ) (text : List ℕ) where
  pub scan-unsized : {fault : Fault} → fault ≡ record { refusal = ProfileLength; line = 0 } → is_in (1 to 65_536) (length text) ≡ false
      → scan_told (record { reading = Err fault; roots = replicate 64 0; rules = replicate 512 0 }) ≡ scan_beside other text
  unfolding scan_beside outcome_beside reading_of roots_table table_numbers flat zeros
  scan-unsized f e = rw (f, e)

  pub first-firm : {line : List ℕ} → line ≡ line_from text 0 → {named firm : ℕ} → named ≡ firm_in line → firm ≡ cond (eqb named other) 0 named → firm ≡ firm_beside other text
  unfolding line_from firm_beside
  first-firm is {named} {firm} n f = let at : named ≡ firm_in (get_or (lines text) 0 []) = n ∙ ap firm_in is in f ∙ ap (λ (k : ℕ). cond (eqb k other) 0 k) at

  pub scan-told : {firm : ℕ} (scan : Scan) → is_in (1 to 65_536) (length text) ≡ true → firm ≡ firm_beside other text
      → ReadingTold (read_on (start_of firm) 0 (lines text)) (reading_told scan.reading) scan.roots scan.rules → scan_told scan ≡ scan_beside other text
  unfolding scan_beside outcome_beside
  scan-told scan e f told = rw (e, ← f) (λ i. record { reading = told.reading-is i; roots = told.stored.roots-in i; rules = told.stored.rules-in i })

-- a fault tells of itself and its line
refused-told : (p : Profile) (k n : ℕ) {o : Outcome} {roots rules : List ℕ} → 6 ≤ k → o ≡ record { profile = p; refusal = k; line = n } → Stored p roots rules
    → ReadingTold o (Refused k n) roots rules
unfolding reading_of
refused-told p k n least e stored = rw e (record { reading-is = rw (ne_eqb k 0 (λ z. omega arith)); stored = stored })

module _ {text : List ℕ} {firm : ℕ} {tally : Tally} {at : ℕ} {roots rules counts : List ℕ} (w : Walk text firm tally at roots rules counts) where
  pub walk_end : length text ≤ at → ReadingTold (read_on (start_of firm) 0 (lines text)) (Accepted firm tally.rules tally.seen) roots rules
  unfolding read_on reading_of pieces
  walk_end h =
      let p = w.profile in
      rw (w.rest, ended text at h)
      (record { reading-is = λ i. Accepted (sym w.own i) (w.held.so_far.rules-are i) (w.held.roots-are i); stored = w.held.stored })

  -- one line more, which begins at the place
  module _ {line : List ℕ} (h : at < length text) (is : line ≡ line_from text at) where
    pub end-within : at + length line ≤ length text
    end-within = rw is (line-inside text at (omega arith))

    -- a line of a text that is no longer than a profile may be is no longer either
    pub line-any : length text ≤ 65_536 → line_of firm line ≡ any_line firm line
    line-any short = sym (any-line firm line (omega (arith, end-within)))

    one_line : read_on (start_of firm) 0 (lines text)
        ≡ after_line w.profile tally.rules (line_of firm line) (λ rule. read_on (joined w.profile rule) (tally.rules + 1) (lines (drop (at + length line + 1) text)))
    unfolding read_on
    one_line = w.rest ∙ rw (line_on text at h, w.own, is)

    pub walk-fault : {k : ℕ} → line_of firm line ≡ Err k → ReadingTold (read_on (start_of firm) 0 (lines text)) (Refused k (tally.rules + 1)) roots rules
    unfolding after_line
    walk-fault {k} e =
        let b = line_refused firm line e in
        refused-told w.profile k (tally.rules + 1) b.0 (one_line ∙ rw e) w.held.stored

    -- a line's rule, and what became of it
    module _ {rule : Rule} (e : line_of firm line ≡ Ok rule) {roots-after rules-after : List ℕ} (counts-after : List ℕ) {became : Option Tally} where
      pub walk-many : became ≡ None → Joins w.profile rule became roots-after rules-after counts-after
          → ReadingTold (read_on (start_of firm) 0 (lines text)) (Refused 11 (tally.rules + 1)) roots-after rules-after
      unfolding after_line Joins
      walk-many b joins =
          let j = rw b at joins in
          refused-told w.profile 11 (tally.rules + 1) (omega arith) (one_line ∙ rw (e, j.0)) j.1

      pub walk-next : {next : Tally} → became ≡ Some next → Joins w.profile rule became roots-after rules-after counts-after
          → Walk text firm next (at + length line + 1) roots-after rules-after counts-after
      unfolding after_line Joins joined
      walk-next {next} b joins =
          let j = rw b at joins in
          let more : next.rules ≡ tally.rules + 1 = omega (arith, j.1.so_far.rules-are, w.held.so_far.rules-are, joined_length w.profile rule) in
          record {
            profile = joined w.profile rule;
            held = j.1;
            own = w.own;
            reach = omega (arith, end-within);
            rest = one_line ∙ rw (e, j.0, more);
          }
