-- The log stays such as soundness asks for: at a later clock, after a reset and after a fill. Assumes nothing.
use Prim.Native.Nat.{ℕ, ◌+◌, ◌≤◌, ◌<◌}
use mathlib.Core.Path.{◌≡◌, refl, sym, ◌∙◌}
use mathlib.Core.Bool.{Bool, true, false, cond, ◌&&◌, false≢true}
use mathlib.Core.List.{List, [], ◌∷◌, ◌++◌, map}
use lib.ListN.{length, length-append, length-map}
use lib.Dec.{ltb}
use borrow.Author.Tests.{ltb-true, lt-ltb}
use native.Mathlib.Omega.{arith}
use Rattle.laws.specs.Folds.{every, keep}
use Rattle.measures.specs.Ranges.{times, units, premiums, offers}
use Rattle.measures.proofs.Determined.{in-test}
use Rattle.rules.specs.Valid.{has_rate}
use Rattle.rules.specs.declared.Level.{Level}
use Rattle.rules.specs.declared.Rule.{Rule}
use Rattle.machine.specs.declared.Entry.{Entry}
use Rattle.machine.specs.declared.Offer.{Offer}
use Rattle.machine.specs.State.{State, rules_in, roots_in}
use Rattle.machine.specs.Entries.{is_entry, are_ordered, is_flagged, recent}
use Rattle.machine.specs.Deeds.{Source}
use Rattle.machine.specs.Order.{unflagged, unflagged_log}
use Rattle.machine.specs.Offers.{longest, entry_of, joined_log}
use Rattle.machine.specs.Judge.{log_places}
use Rattle.machine.proofs.Lists.{every_map, every-keep, keep-every, keep-le, every-join, ordered-wider, ordered-map, ordered-keep, ordered-join}
use Rattle.machine.proofs.Meets.{Fillable}

-- what soundness asks of a log, with these rules, so many roots and this clock
pub record Logged (rules : List Rule) (roots clock : ℕ) (log : List Entry) : Type 0 where
  pub number : length log ≤ log_places
  pub none : has_rate rules ≡ false → length log ≡ 0
  pub ordered : are_ordered 0 clock log ≡ true
  pub entries : every (is_entry roots) log ≡ true
  pub flagged : every is_flagged log ≡ true

-- a log at a later clock
pub logged-later : {rules : List Rule} {roots clock : ℕ} {log : List Entry} (time : ℕ) → clock ≤ time → Logged rules roots clock log
    → Logged rules roots time log
logged-later {clock = clock} {log = log} time h l = record {
  number = l.number;
  none = l.none;
  ordered = ordered-wider 0 0 clock time (omega arith) h log l.ordered;
  entries = l.entries;
  flagged = l.flagged;
}

-- a log whose flags are cleared, and which has lost the entries without any
pub logged-reset : {rules : List Rule} {roots clock : ℕ} {log : List Entry} (zeroes : Level → Bool) → Logged rules roots clock log
    → Logged rules roots clock (unflagged_log zeroes log)
unfolding unflagged_log unflagged is_entry
logged-reset {roots = roots} {clock = clock} {log = log} zeroes l = record {
  number = omega (arith, fewer, l.number);
  none = λ e. omega (arith, fewer, l.none e);
  ordered = ordered-keep is_flagged 0 clock cleared (ordered-map (unflagged zeroes) (λ e. refl) 0 clock log ∙ l.ordered);
  entries = every-keep (is_entry roots) is_flagged cleared (every_map (is_entry roots) (unflagged zeroes) log ∙ l.entries);
  flagged = keep-every is_flagged cleared;
}
  where
    cleared : List Entry
    cleared = map (unflagged zeroes) log

    fewer : length (keep is_flagged cleared) ≤ length log
    fewer = rw (← (length-map log (unflagged zeroes))) (keep-le is_flagged cleared)

module _ (s : State) (source : Source) (o : Offer) (n : ℕ) (f : Fillable s source o n) where
  -- the entry of a fill has all numbers in range
  pub new-entry : 0 < n → is_entry (roots_in s) (entry_of o n) ≡ true
  unfolding is_entry entry_of
  new-entry pos =
      rw (in-test times o.time f.time.range, lt-ltb o.root (roots_in s) f.root, in-test units o.unit f.unit, in-test premiums o.premium f.premium)
      (in-test offers n (pos, f.contracts))

  -- the log after the fill, for which there is a place
  pub joined-logged : (has_rate (rules_in s) ≡ true → 0 < n → length (recent (longest (rules_in s)) o.time s.log) < log_places)
      → Logged (rules_in s) (roots_in s) s.part.clock s.log
      → Logged (rules_in s) (roots_in s) o.time (joined_log (rules_in s) s.log o n)
  unfolding joined_log recent entry_of is_flagged
  joined-logged place l = go (has_rate (rules_in s)) refl (ltb 0 n) refl
    where
      kept : List Entry
      kept = recent (longest (rules_in s)) o.time s.log

      test : Entry → Bool
      test e = ltb o.time (e.time + longest (rules_in s))

      same : Logged (rules_in s) (roots_in s) o.time s.log
      same = logged-later o.time f.time.after l

      go : (b : Bool) → has_rate (rules_in s) ≡ b → (c : Bool) → ltb 0 n ≡ c
          → Logged (rules_in s) (roots_in s) o.time (cond (b && c) (kept ++ (entry_of o n ∷ [])) s.log)
      go false eb c ec = same
      go true eb false ec = same
      go true eb true ec =
          let pos = ltb-true 0 n ec in
          record {
            number = simp length-append (omega (arith, place eb pos));
            none = λ e. absurd (false≢true (sym e ∙ eb));
            ordered =
                ordered-join 0 s.part.clock kept (entry_of o n) (omega arith) f.time.after (ordered-keep test 0 s.part.clock s.log l.ordered);
            entries = every-join (is_entry (roots_in s)) kept (entry_of o n) (every-keep _ test s.log l.entries) (new-entry pos);
            flagged = every-join is_flagged kept (entry_of o n) (every-keep is_flagged test s.log l.flagged) refl;
          }
