-- What is answered of a unit's profile: a root's number by its name, a root's name by its number, a rule by its number, and the whole as text. Assumes nothing.
use Rattle.std.specs.Prelude.{ℕ, ◌+◌, ◌*◌, cond, List, ◌++◌, length, get_or, drop, leb, ltb, eqb, Option, Some, None}
use Rattle.text.specs.Text.{index_of, name_of}
use Rattle.rules.specs.declared.Scope.{Scope}
use Rattle.rules.specs.declared.Scope.TheVariants.{EveryFill, WholeRoot, OneUnit}
use Rattle.rules.specs.declared.Kind.{Kind}
use Rattle.rules.specs.declared.Limit.{Limit}
use Rattle.rules.specs.declared.Rule.{Rule}
use Rattle.packing.specs.RulePlace.{limit_number, measure_number, window_number, kind_number}
use Rattle.machine.specs.State.{Profile}
use Rattle.machine.specs.Remaining.{no_account}
use Rattle.given.specs.Names.{name_bytes}
use Rattle.writing.specs.Writing.{text_of}
use Rattle.state.specs.State.{decode}
use Rattle.calls.specs.Calls.{memory_refusal}
use Rattle.std.specs.Prelude.{Result}
use Rattle.std.specs.declared.result.Result.TheVariants.{Ok, Err}
use Rattle.refusals.specs.declared.Refusal.{Refusal}
use Rattle.refusals.specs.Numbers.{refusal_number}
use Rattle.views.specs.declared.Terms.{Terms}
use Rattle.views.specs.declared.Unlisted.{Unlisted}
use Rattle.views.specs.declared.Unlisted.TheVariants.{Short as RoomShort, Refused as WasRefused}

-- the profile in a memory, asked for where the memory meets no refusal
unfoldable pub asked : {A : Type 0} → List ℕ → (ℕ → A) → (Profile → A) → A
asked xs refused answer = cond (eqb (memory_refusal xs) 0) (answer (decode xs).part.profile) (refused (memory_refusal xs))

-- the place of a name among the roots, 13 where it does not stand there; bytes that are no name of 1 to 6 capitals or digits stand nowhere
unfoldable pub found_root : List ℕ → Option ℕ → Result ℕ ℕ
found_root roots (Some name) = cond (ltb (index_of name roots) (length roots)) (Ok (index_of name roots)) (Err 13)
found_root roots None = Err 13

unfoldable pub root_named : List ℕ → List ℕ → Result ℕ ℕ
root_named xs name = asked xs Err (λ p. found_root p.roots (name_of 1 6 name))

-- a root's name: 13 for a root that is not known, then 1 for room below 6 bytes, else how many bytes the name has
unfoldable pub name_answer : List ℕ → ℕ → List ℕ → Result ℕ ℕ
name_answer roots root room =
    cond (ltb root (length roots)) (cond (ltb (length room) 6) (Err 1) (Ok (length (name_bytes (get_or roots root 0))))) (Err 13)

-- the name in front of the room, and the room after it untouched; with a refusal the whole room is
unfoldable pub name_room : List ℕ → ℕ → List ℕ → List ℕ
name_room roots root room =
    let name = name_bytes (get_or roots root 0) in
    cond (ltb root (length roots)) (cond (ltb (length room) 6) room (name ++ drop (length name) room)) room

unfoldable pub root_name : List ℕ → ℕ → List ℕ → Result ℕ ℕ
root_name xs root room = asked xs Err (λ p. name_answer p.roots root room)

unfoldable pub root_name_room : List ℕ → ℕ → List ℕ → List ℕ
root_name_room xs root room = asked xs (λ number. room) (λ p. name_room p.roots root room)

-- a rule's type: 0 rate_ntnl, 1 rate_vol, 2 rate_count, 3 abs_ntnl, 4 abs_vol, 5 abs_count
unfoldable pub type_number : Kind → Limit → ℕ
type_number kind limit = kind_number kind * 3 + measure_number limit

-- the root of a rule, 64 where it is a firm rule
unfoldable pub root_of : Scope → ℕ
root_of EveryFill = 64
root_of (WholeRoot root) = root
root_of (OneUnit root unit) = root

-- the unit of a rule, 4 where it covers all four
unfoldable pub unit_of : Scope → ℕ
unit_of EveryFill = 4
unit_of (WholeRoot root) = 4
unit_of (OneUnit root unit) = unit

-- a rule as numbers: type, limit (dollars, contracts or executions), window in milliseconds (0 for an absolute rule), root, unit
unfoldable pub terms_of : Rule → Terms
terms_of rule = record {
  ruletype = type_number rule.kind rule.limit;
  limit = limit_number rule.limit;
  window = window_number rule.kind;
  root = root_of rule.scope;
  unit = unit_of rule.scope;
}

-- a rule by its number, 13 for one that is not known
unfoldable pub rule_told : List ℕ → ℕ → Result Terms ℕ
rule_told xs rule = asked xs Err (λ p. cond (ltb rule (length p.rules)) (Ok (terms_of (get_or p.rules rule no_account.rule))) (Err 13))

-- the size that was written; the size that is needed where the room is short, which is refusal 1; or a refusal
pub data Listing : Type 0 where
  Listed : ℕ → Listing
  Short : ℕ → Listing
  NotListed : ℕ → Listing

-- what the code answers, in these words
abbrev pub listing_told : Result ℕ Unlisted → Listing
listing_told (Ok size) = Listed size
listing_told (Err (RoomShort size)) = Short size
listing_told (Err (WasRefused r)) = NotListed (refusal_number r)

-- the whole profile as text: 1 for room below the text's size, with the size that is needed; else the size that is written
unfoldable pub list_answer : Profile → List ℕ → Listing
list_answer p room = cond (ltb (length room) (length (text_of p))) (Short (length (text_of p))) (Listed (length (text_of p)))

-- the text in front of the room, and the room after it untouched; with a refusal the whole room is
unfoldable pub list_room : Profile → List ℕ → List ℕ
list_room p room = cond (ltb (length room) (length (text_of p))) room (text_of p ++ drop (length (text_of p)) room)

unfoldable pub profile_answer : List ℕ → List ℕ → Listing
profile_answer xs room = asked xs NotListed (λ p. list_answer p room)

unfoldable pub profile_room : List ℕ → List ℕ → List ℕ
profile_room xs room = asked xs (λ number. room) (λ p. list_room p room)
