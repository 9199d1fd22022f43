-- How a text is read: through all its lines, or up to the first faulty one. Assumes nothing.
use Prim.Native.Nat.{ℕ, zero, suc, ◌+◌}
use native.Mathlib.Omega.{arith}
use mathlib.Core.Path.{◌≡◌, refl, ap, ◌∙◌}
use mathlib.Core.Logic.{◌⊎◌, inl, inr}
use mathlib.Core.Bool.{Bool, true, false, cond}
use mathlib.Core.List.{List, [], ◌∷◌, ◌++◌}
use lib.ListN.{length}
use lib.Dec.{eqb}
use borrow.Author.Tests.{ne_eqb}
use Rattle.rules.specs.declared.Rule.{Rule}
use Rattle.line.specs.Line.{malformed, other_firm, out_of_range, level_clash, unit_clash, type_in, limit_in, time_in, root_in, is_firm_level, call_put, month, fault_of, rule_of, line_of}
use Rattle.std.specs.Prelude.{Ok, Err}
use Rattle.profile.specs.Profile.{joined, too_many, Outcome, after_line, read_on}
use Rattle.machine.specs.State.{Profile}
use Rattle.machine.specs.Refusals.{first_of}
use Rattle.promises.specs.Refusals.{profile_of, faults, Faultless}

-- what a fault in the line after n lines gives
abbrev stopped_at : Profile → ℕ → ℕ → Outcome
stopped_at p number place = record { profile = p; refusal = number; line = place }

-- one line: its first fault stops the reading, and without one the rest is read with its rule
line_step : (p : Profile) (n : ℕ) (l : List ℕ) (rest : Rule → Outcome)
    → after_line p n (line_of p.firm l) rest
    ≡ cond (eqb (first_of (faults p l)) 0) (rest (rule_of l)) (stopped_at p (first_of (faults p l)) (n + 1))
unfolding after_line line_of fault_of first_of
line_step p n l rest =
    go (malformed l) (other_firm p.firm l) (out_of_range (type_in l) (limit_in l) (time_in l)) (level_clash (root_in l) (is_firm_level l))
    (unit_clash (is_firm_level l) (call_put l) (month l))
  where
    many : (f : Bool) → cond f (stopped_at p 11 (n + 1)) (rest (rule_of l)) ≡ cond (eqb (cond f 11 0) 0) (rest (rule_of l)) (stopped_at p (cond f 11 0) (n + 1))
    many true = refl
    many false = refl

    go : (a b c d e : Bool)
        → after_line p n (cond (eqb (cond a 6 (cond b 7 (cond c 8 (cond d 9 (cond e 10 0))))) 0) (Ok (rule_of l)) (Err (cond a 6 (cond b 7 (cond c 8 (cond d 9 (cond e 10 0))))))) rest
        ≡ cond (eqb (cond a 6 (cond b 7 (cond c 8 (cond d 9 (cond e 10 (cond (too_many p (rule_of l)) 11 0)))))) 0) (rest (rule_of l))
        (stopped_at p (cond a 6 (cond b 7 (cond c 8 (cond d 9 (cond e 10 (cond (too_many p (rule_of l)) 11 0)))))) (n + 1))
    go true b c d e = refl
    go false true c d e = refl
    go false false true d e = refl
    go false false false true e = refl
    go false false false false true = refl
    go false false false false false = many (too_many p (rule_of l))

line-fine : (p : Profile) (n : ℕ) (l : List ℕ) (ls : List (List ℕ)) → first_of (faults p l) ≡ 0 → read_on p n (l ∷ ls) ≡ read_on (joined p (rule_of l)) (n + 1) ls
unfolding read_on
line-fine p n l ls e = line_step p n l (λ rule. read_on (joined p rule) (n + 1) ls) ∙ rw e

line-faulty : (p : Profile) (n : ℕ) (l : List ℕ) (ls : List (List ℕ)) (k : ℕ) → first_of (faults p l) ≡ suc k → read_on p n (l ∷ ls) ≡ stopped_at p (suc k) (n + 1)
unfolding read_on
line-faulty p n l ls k e = line_step p n l (λ rule. read_on (joined p rule) (n + 1) ls) ∙ rw (e, ne_eqb (suc k) 0 (λ z. omega arith))

-- through all lines
pub read_through : (p : Profile) (n : ℕ) (ls : List (List ℕ)) → Faultless p ls → read_on p n ls ≡ record { profile = profile_of p ls; refusal = 0; line = 0 }
unfolding Faultless profile_of read_on
read_through p n [] fine = refl
read_through p n (l ∷ ls) fine = line-fine p n l ls fine.0 ∙ read_through (joined p (rule_of l)) (n + 1) ls fine.1

-- up to the first faulty line
pub read-fault : (p : Profile) (n : ℕ) (before : List (List ℕ)) (l : List ℕ) (behind : List (List ℕ)) (k place : ℕ) → Faultless p before
    → first_of (faults (profile_of p before) l) ≡ suc k → place ≡ n + length before + 1
    → read_on p n (before ++ (l ∷ behind)) ≡ record { profile = profile_of p before; refusal = suc k; line = place }
unfolding Faultless profile_of
read-fault p n [] l behind k place fine e at = line-faulty p n l behind k e ∙ ap (stopped_at p (suc k)) (omega (arith, at))
read-fault p n (first ∷ before) l behind k place fine e at =
    line-fine p n first (before ++ (l ∷ behind)) fine.0
    ∙ read-fault (joined p (rule_of first)) (n + 1) before l behind k place fine.1 e (omega (arith, at))

-- one or the other
pub record Split (p : Profile) (ls : List (List ℕ)) : Type 0 where
  pub before : List (List ℕ)
  pub line : List ℕ
  pub behind : List (List ℕ)
  pub parts : ls ≡ before ++ (line ∷ behind)
  pub fine : Faultless p before
  pub number : ℕ
  pub fault : first_of (faults (profile_of p before) line) ≡ suc number

pub splits : (p : Profile) (ls : List (List ℕ)) → Faultless p ls ⊎ Split p ls
unfolding Faultless profile_of
splits p [] = inl tt
splits p (l ∷ ls) = go (first_of (faults p l)) refl (splits (joined p (rule_of l)) ls)
  where
    go : (n : ℕ) → first_of (faults p l) ≡ n → Faultless (joined p (rule_of l)) ls ⊎ Split (joined p (rule_of l)) ls → Faultless p (l ∷ ls) ⊎ Split p (l ∷ ls)
    go (suc k) e rest = inr (record { before = []; line = l; behind = ls; parts = refl; fine = tt; number = k; fault = e })
    go zero e (inl fine) = inl (e, fine)
    go zero e (inr s) = inr (record {
      before = l ∷ s.before;
      line = s.line;
      behind = s.behind;
      parts = ap (λ (more : List (List ℕ)). l ∷ more) s.parts;
      fine = (e, s.fine);
      number = s.number;
      fault = s.fault;
    })
