-- A rule after a profile that is held: one too many, or held with it after its stores. Assumes nothing.
use Prim.Native.Nat.{ℕ, ◌-◌, ◌*◌, ◌≤◌, ◌<◌}
use mathlib.Core.Path.{◌≡◌, sym, ap, ◌∙◌}
use mathlib.Core.Bool.{true, false, not}
use mathlib.Core.List.{List}
use lib.ListN.{length, take, set}
use lib.Seq.{sets}
use borrow.Author.Tests.{not-true, not-false}
use native.Mathlib.Omega.{arith}
use Rattle.rules.specs.declared.Scope.{Scope}
use Rattle.rules.specs.declared.Rule.{Rule}
use Rattle.packing.specs.RulePlace.{root_number, rule_numbers}
use Rattle.packing.proofs.RulePlace.{rule-wider}
use Rattle.rules.specs.Valid.{is_rule}
use Rattle.machine.specs.State.{Profile}
use Rattle.admission.specs.Admission.{may_join}
use Rattle.admission.specs.Inner.Counting.{SoFar, Follows, Numbered}
use Rattle.admission.specs.declared.Tally.{Tally}
use Rattle.std.specs.Prelude.{Option}
use Rattle.std.specs.declared.option.Option.TheVariants.{None, Some}
use Rattle.profile.specs.Profile.{roots_with, numbered, joined, too_many, roots_table}
use Rattle.profile.specs.Inner.Lawful.{Said, Lawful, NewestOnce}
use Rattle.profile.specs.Inner.Held.{Held, Joins}
use Rattle.profile.proofs.Joined.{known_of, scope_of, grow, own_of, joined_is, joined_length, join_is, own-rule, lawful-joined}
use Rattle.profile.proofs.Memory.{length-roots, length-rules, names-known, roots_kept, roots-put, rules-put}

-- the tables of a profile that is held have their lengths, and the known names stand in front
module _ {p : Profile} {tally : Tally} {roots rules counts : List ℕ} (held : Held p tally roots rules counts) where
  pub roots-long : length roots ≡ 64
  roots-long = rw held.stored.roots-in (length-roots p.roots held.lawful.roots-most)

  pub rules-long : length rules ≡ 512
  rules-long = rw held.stored.rules-in (length-rules p.rules held.lawful.rules-most)

  pub roots-room : tally.seen ≤ length roots
  roots-room = omega (arith, roots-long, held.so_far.roots-most)

  names-are : take tally.seen roots ≡ p.roots
  names-are = rw (held.stored.roots-in, held.roots-are) (names-known p.roots)

  pub newest-once : NewestOnce (take tally.seen roots)
  unfolding NewestOnce
  newest-once = rw names-are (λ some. held.lawful.each-place (length p.roots - 1) (omega arith))

-- a rule with its root's number, as the code comes to it
module _ {p : Profile} {tally : Tally} {roots rules counts : List ℕ} (held : Held p tally roots rules counts) (rule : Rule) (said : Said rule)
    {scope : Scope} (scope-is : scope ≡ numbered (take tally.seen roots) rule.scope) where
  abbrev own : Rule
  own = record { scope = scope; kind = rule.kind; limit = rule.limit }

  number_is : scope ≡ numbered p.roots rule.scope
  number_is = scope-is ∙ ap (λ (names : List ℕ). numbered names rule.scope) (names-are held)

  own_is : own ≡ own_of p rule
  own_is = λ i. record { scope = number_is i; kind = rule.kind; limit = rule.limit }

  pub own-numbered : Numbered scope
  own-numbered = (length (roots_with rule.scope p.roots), rw number_is (scope_of p.roots rule.scope said.scope))

  may-join : may_join p.rules tally.seen own ≡ not (too_many p rule)
  may-join = rw (own_is, held.roots-are) (join_is p rule)

  pub refuses : (after : List ℕ) {became : Option Tally} → became ≡ None → Follows p.rules tally own became counts after
      → Joins p rule None roots rules after
  unfolding Follows Joins
  refuses after told f = (not-false (too_many p rule) (sym may-join ∙ (rw told at f).0), held.stored)

  -- it joins
  module _ (next : Tally) (after : List ℕ) {became : Option Tally} (told : became ≡ Some next) (is : Follows p.rules tally own became counts after) where
    follows : Follows p.rules tally own (Some next) counts after
    follows = rw told at is

    room : too_many p rule ≡ false
    unfolding Follows
    room = not-true (too_many p rule) (sym may-join ∙ follows.0)

    law : Lawful (joined p rule)
    law = lawful-joined p rule said held.lawful room

    seen-is : next.seen ≡ length (roots_with rule.scope p.roots)
    unfolding Follows
    seen-is = follows.1 ∙ rw (number_is, held.roots-are) (known_of p.roots rule.scope)

    so_far : SoFar (joined p rule).rules next after
    unfolding Follows
    so_far = rw (joined_is, ← own_is) follows.2

    pub few : tally.rules < 256
    few = omega (arith, law.rules-most, joined_length p rule, held.so_far.rules-are)

    pub own-fits : is_rule 64 own ≡ true
    own-fits = rw own_is (rule-wider _ 64 _ (omega (arith, seen-is, so_far.roots-most)) (own-rule p rule said))

    pub next-room : (next.seen ≡ tally.seen → ⊥) → tally.seen < 64
    next-room d = omega (arith, seen-is, grow p.roots rule.scope, so_far.roots-most, held.roots-are)

    takes : {roots-after rules-after : List ℕ} → roots-after ≡ roots_table (roots_with rule.scope p.roots)
        → rules-after ≡ sets rules (tally.rules * 2) (rule_numbers own) → Joins p rule (Some next) roots-after rules-after after
    unfolding Joins
    takes r e = (
      room,
      record {
        lawful = law;
        stored = record {
          roots-in = rw joined_is r;
          rules-in = e ∙ rw (held.stored.rules-in, held.so_far.rules-are, own_is, joined_is) (rules-put p.rules (own_of p rule) (omega (arith, few, held.so_far.rules-are)));
        };
        roots-are = rw joined_is seen-is;
        so_far = so_far;
      },
    )

    pub takes-known : next.seen ≡ tally.seen → {rules-after : List ℕ} → rules-after ≡ sets rules (tally.rules * 2) (rule_numbers own)
        → Joins p rule (Some next) roots rules-after after
    takes-known e = takes (held.stored.roots-in ∙ roots_kept p.roots rule.scope (sym seen-is ∙ e ∙ held.roots-are))

    pub takes-new : (next.seen ≡ tally.seen → ⊥) → {name : ℕ} → name ≡ root_number rule.scope → {rules-after : List ℕ}
        → rules-after ≡ sets rules (tally.rules * 2) (rule_numbers own) → Joins p rule (Some next) (set roots tally.seen name) rules-after after
    takes-new d e =
        takes (rw (e, held.stored.roots-in, held.roots-are) (roots-put p.roots rule.scope (λ s. d (seen-is ∙ s ∙ sym held.roots-are)) (omega (arith, next-room d, held.roots-are))))
