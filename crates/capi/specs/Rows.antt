-- The rows of document 01's numbers, the refusal first. Assumes nothing.
use Rattle.std.specs.Prelude.{Result, ℕ, List, [], ◌∷◌}
use Rattle.refusals.specs.declared.Refusal.{Refusal}
use Rattle.refusals.specs.Numbers.{refused_with}
use Rattle.profile.specs.Reading.{Reading, Accepted, Refused}
use Rattle.std.specs.declared.result.Result.TheVariants.{Ok, Err}
use Rattle.views.specs.declared.Terms.{Terms}
use Rattle.views.specs.Views.{Listing, Listed, Short, NotListed}

-- Arm: refusal, line, firm, rules, roots
unfoldable pub arm_row : Reading → List ℕ
arm_row (Accepted firm rules roots) = 0 ∷ 0 ∷ firm ∷ rules ∷ roots ∷ []
arm_row (Refused number line) = number ∷ line ∷ 0 ∷ 0 ∷ 0 ∷ []

-- Clear: refusal
unfoldable pub clear_row : Result (Unit {0}) ℕ → List ℕ
clear_row (Ok tt) = 0 ∷ 0 ∷ 0 ∷ 0 ∷ 0 ∷ []
clear_row (Err number) = number ∷ 0 ∷ 0 ∷ 0 ∷ 0 ∷ []

-- Text and a root's name: refusal, how many bytes were written
unfoldable pub text_row : Result ℕ ℕ → List ℕ
text_row (Ok length) = 0 ∷ length ∷ 0 ∷ 0 ∷ 0 ∷ []
text_row (Err number) = number ∷ 0 ∷ 0 ∷ 0 ∷ 0 ∷ []

-- a root by its name: refusal, the root's number
unfoldable pub found_row : Result ℕ ℕ → List ℕ
found_row (Ok root) = 0 ∷ root ∷ 0 ∷ 0 ∷ 0 ∷ []
found_row (Err number) = number ∷ 0 ∷ 0 ∷ 0 ∷ 0 ∷ []

-- a rule by its number: refusal, type, limit, window, root, unit
unfoldable pub rule_row : Result Terms ℕ → List ℕ
rule_row (Ok terms) = 0 ∷ terms.ruletype ∷ terms.limit ∷ terms.window ∷ terms.root ∷ terms.unit ∷ []
rule_row (Err number) = number ∷ 0 ∷ 0 ∷ 0 ∷ 0 ∷ 0 ∷ []

-- the profile as text: refusal, the size written, or with 1 for room the size needed
unfoldable pub listing_row : Listing → List ℕ
listing_row (Listed size) = 0 ∷ size ∷ 0 ∷ 0 ∷ 0 ∷ []
listing_row (Short size) = 1 ∷ size ∷ 0 ∷ 0 ∷ 0 ∷ []
listing_row (NotListed number) = number ∷ 0 ∷ 0 ∷ 0 ∷ 0 ∷ []

-- an event's numbers as the fields of a record, its spare bits 0
abbrev pub event_fields : ℕ → ℕ → ℕ → ℕ → ℕ → ℕ → ℕ → ℕ → List ℕ
event_fields kind time root unit premium contracts reset level =
    kind ∷ time ∷ root ∷ unit ∷ premium ∷ contracts ∷ reset ∷ level ∷ 0 ∷ []

-- the same of a record of 16 bytes
abbrev pub fields16_of : ℕ → ℕ → ℕ → ℕ → ℕ → ℕ → ℕ → ℕ → ℕ → ℕ → List ℕ
fields16_of kind time root unit premium contracts reset level identity reports =
    kind ∷ time ∷ root ∷ unit ∷ premium ∷ contracts ∷ reset ∷ level ∷ identity ∷ reports ∷ 0 ∷ []

-- what answers a refusal or nothing, as an event record written or moved to the other form: refusal
unfoldable pub refusal_row : Result (Unit {0}) Refusal → List ℕ
refusal_row answer = refused_with answer ∷ 0 ∷ 0 ∷ 0 ∷ 0 ∷ []
