-- No two refusals have one number, so that an answer told by numbers is one answer, and no two have one text. Assumes nothing.
use Rattle.std.proofs.Common.{◌≡◌, ◌∙◌, sym, ap, refl, ℕ, List, [], ◌∷◌, get_or, Result, arith}
use Rattle.std.specs.Prelude.{unwrap_or, find, bytes_eq}
use Rattle.std.specs.declared.result.Result.TheVariants.{Ok, Err}
use Rattle.refusals.specs.declared.Refusal.{Refusal}
use Rattle.refusals.specs.declared.Refusal.TheVariants.{NoRoom, Unsound, ArmedAlready, NotArmed, ProfileLength, Malformed, OtherFirm, OutOfRange, LevelClash, UnitClash, TooMany, BadTime, Unknown, BadAmount, LogFull, FaultyRecord, RegisterFull, IdentityClash, OverReported, Unfit, AccountFull}
use Rattle.refusals.specs.Numbers.{refusal_number, refused_with, numbered}
use Rattle.refusals.specs.Inner.Texts.{refusal_text}

-- the refusals in the order of their numbers, the first of which is 1
abbrev in_order : List Refusal
in_order = NoRoom ∷ NoRoom ∷ Unsound ∷ ArmedAlready ∷ NotArmed ∷ ProfileLength ∷ Malformed ∷ OtherFirm ∷ OutOfRange ∷ LevelClash ∷ UnitClash ∷ TooMany ∷ BadTime ∷ Unknown ∷ BadAmount ∷ LogFull ∷ FaultyRecord ∷ RegisterFull ∷ IdentityClash ∷ OverReported ∷ Unfit ∷ AccountFull ∷ []

abbrev pub refusal_at : ℕ → Refusal
refusal_at n = get_or in_order n NoRoom

pub refusal_at_number : (r : Refusal) → refusal_at (refusal_number r) ≡ r
refusal_at_number NoRoom = refl
refusal_at_number Unsound = refl
refusal_at_number ArmedAlready = refl
refusal_at_number NotArmed = refl
refusal_at_number ProfileLength = refl
refusal_at_number Malformed = refl
refusal_at_number OtherFirm = refl
refusal_at_number OutOfRange = refl
refusal_at_number LevelClash = refl
refusal_at_number UnitClash = refl
refusal_at_number TooMany = refl
refusal_at_number BadTime = refl
refusal_at_number Unknown = refl
refusal_at_number BadAmount = refl
refusal_at_number LogFull = refl
refusal_at_number FaultyRecord = refl
refusal_at_number RegisterFull = refl
refusal_at_number IdentityClash = refl
refusal_at_number OverReported = refl
refusal_at_number Unfit = refl
refusal_at_number AccountFull = refl

-- a number is that of one refusal
pub one_refusal : (a b : Refusal) → refusal_number a ≡ refusal_number b → a ≡ b
one_refusal a b e = sym (refusal_at_number a) ∙ ap refusal_at e ∙ refusal_at_number b

-- an answer told by numbers is one answer
pub one_numbered : {A : Type 0} (a b : Result A Refusal) → numbered a ≡ numbered b → a ≡ b
one_numbered (Ok x) (Ok y) e = let same : x ≡ y = cc in ap Ok same
one_numbered (Err r) (Err t) e = let same : refusal_number r ≡ refusal_number t = cc in ap Err (one_refusal r t same)
one_numbered (Ok x) (Err t) e = absurd (let w : ◌≡◌ {A = ℕ} 0 1 = cc in omega arith)
one_numbered (Err r) (Ok y) e = absurd (let w : ◌≡◌ {A = ℕ} 0 1 = cc in omega arith)

-- no refusal has the number of none
pub some_number : (r : Refusal) → refusal_number r ≡ 0 → ⊥
some_number r e = let none : NoRoom ≡ r = ap refusal_at (sym e) ∙ refusal_at_number r in let w : ◌≡◌ {A = ℕ} 1 0 = ap refusal_number none ∙ e in omega arith

-- a test told by its number is one test
pub one_tested : (a b : Result (Unit {0}) Refusal) → refused_with a ≡ refused_with b → a ≡ b
one_tested (Ok x) (Ok y) e = refl
one_tested (Err r) (Err t) e = ap Err (one_refusal r t e)
one_tested (Ok x) (Err t) e = absurd (some_number t (sym e))
one_tested (Err r) (Ok y) e = absurd (some_number r e)

-- the refusal of a text
abbrev spelled : List ℕ → Refusal
spelled text = unwrap_or (find (λ r. bytes_eq (refusal_text r) text) in_order) NoRoom

pub spelled_text : (r : Refusal) → spelled (refusal_text r) ≡ r
spelled_text NoRoom = refl
spelled_text Unsound = refl
spelled_text ArmedAlready = refl
spelled_text NotArmed = refl
spelled_text ProfileLength = refl
spelled_text Malformed = refl
spelled_text OtherFirm = refl
spelled_text OutOfRange = refl
spelled_text LevelClash = refl
spelled_text UnitClash = refl
spelled_text TooMany = refl
spelled_text BadTime = refl
spelled_text Unknown = refl
spelled_text BadAmount = refl
spelled_text LogFull = refl
spelled_text FaultyRecord = refl
spelled_text RegisterFull = refl
spelled_text IdentityClash = refl
spelled_text OverReported = refl
spelled_text Unfit = refl
spelled_text AccountFull = refl

-- a text is that of one refusal
pub one_text : (a b : Refusal) → refusal_text a ≡ refusal_text b → a ≡ b
one_text a b e = sym (spelled_text a) ∙ ap spelled e ∙ spelled_text b
