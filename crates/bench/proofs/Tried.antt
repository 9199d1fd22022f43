-- Texts that Arm refuses, and the two texts that are said, by every library that meets the contracts. Assumes nothing.
use Prim.Native.Nat.{◌≤◌}
use mathlib.Core.Path.{◌≡◌, refl, sym, ap, ◌∙◌}
use mathlib.Core.Bool.{true}
use mathlib.Core.List.{List, [], ◌∷◌, ◌++◌, map}
use lib.ListN.{length, drop}
use Rattle.laws.proofs.Tests.{and_l, and_r}
use Rattle.laws.specs.Folds.{every}
use Rattle.rules.specs.Allowance.{All}
use Rattle.text.specs.Text.{bytes}
use Rattle.capi.specs.Rows.{arm_row, text_row}
use Rattle.calls.specs.Calls.{text_answer, text_memory}
use Rattle.std.specs.declared.result.Result.TheVariants.{Ok}
use Rattle.calls.proofs.Cases.{say-done}
use Rattle.promises.proofs.Unarmed.{refused-arm-same, unarmed-idle}
use Rattle.bench.specs.Lent.{Memory, Text, Verdict}
use Rattle.bench.specs.Library.{Library, Meets, Unarmed}
use Rattle.bench.specs.Tried.{Fault, refused_texts, Refuses, Says}
use Rattle.bench.proofs.Words.{tested-below}
use Rattle.bench.proofs.Computed.{is_text, read_as, said_as, texts-fit, texts-read}

module _ (l : Library) (meets : Meets l) where
  module _ (m : Memory) (u : Unarmed m) where
    refuses : (fault : Fault) → is_text (bytes fault.text) ≡ true → read_as fault ≡ said_as fault → Refuses l m fault
    unfolding arm_row
    refuses fault fit e =
        let t : Text = record { now = bytes fault.text; bytes = tested-below 256 (bytes fault.text) fit } in
        let answer = (unarmed-idle m.now u.long u.mark).judged (bytes fault.text) ∙ e in
        record {
          text = t;
          is_text = refl;
          row = ap arm_row (meets.arm_answers m t ∙ answer);
          kept = meets.arm_leaves m t ∙ refused-arm-same m.now (bytes fault.text) fault.number fault.line answer;
        }

    all-refused : (faults : List Fault) → every (λ f. is_text (bytes f.text)) faults ≡ true → map read_as faults ≡ map said_as faults → All (Refuses l m) faults
    unfolding every
    all-refused [] fit e = tt
    all-refused (fault ∷ rest) fit e =
        let first : read_as fault ≡ said_as fault = cc in
        let more : map read_as rest ≡ map said_as rest = cc in (
          refuses fault (and_l (is_text (bytes fault.text)) (every (λ f. is_text (bytes f.text)) rest) fit) first,
          all-refused rest (and_r (is_text (bytes fault.text)) (every (λ f. is_text (bytes f.text)) rest) fit) more,
        )

    -- 5 to 11, each at its line, and arming with no rules
    pub texts-refused : All (Refuses l m) refused_texts
    texts-refused = all-refused refused_texts texts-fit texts-read

  -- the two texts
  pub texts-said : (v : Verdict) (room : Text) → Says l v room
  unfolding text_answer text_memory text_row
  texts-said v room = record { firm = λ is long. (ap text_row (firm-answer is long), firm-left is long); root = λ is long. (ap text_row (root_answer is long), root-left is long) }
    where
      firm-answer : v.number ≡ 1 → 20 ≤ length room.now → (l.text v room).answer ≡ Ok 20
      firm-answer is long = meets.text_answers v room ∙ rw is (sym (say-done (bytes "f: RiskMgmtFirmLevel") room.now long).0)

      firm-left : v.number ≡ 1 → 20 ≤ length room.now → (l.text v room).room.now ≡ bytes "f: RiskMgmtFirmLevel" ++ drop 20 room.now
      firm-left is long = meets.text_leaves v room ∙ rw is (sym (say-done (bytes "f: RiskMgmtFirmLevel") room.now long).1)

      root_answer : v.number ≡ 2 → 20 ≤ length room.now → (l.text v room).answer ≡ Ok 19
      root_answer is long = meets.text_answers v room ∙ rw is (sym (say-done (bytes "s: RiskMgmtSymLevel") room.now long).0)

      root-left : v.number ≡ 2 → 20 ≤ length room.now → (l.text v room).room.now ≡ bytes "s: RiskMgmtSymLevel" ++ drop 19 room.now
      root-left is long = meets.text_leaves v room ∙ rw is (sym (say-done (bytes "s: RiskMgmtSymLevel") room.now long).1)
