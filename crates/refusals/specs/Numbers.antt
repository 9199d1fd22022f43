-- The numbers of the refusals, and answers told by them. Assumes nothing.
use Rattle.std.specs.Prelude.{ℕ, Result}
use Rattle.std.specs.declared.result.Result.TheVariants.{Ok, Err}
use Rattle.refusals.specs.declared.Refusal.{Refusal}
use Rattle.refusals.specs.declared.Refusal.TheVariants.{NoRoom, Unsound, ArmedAlready, NotArmed, ProfileLength, Malformed, OtherFirm, OutOfRange, LevelClash, UnitClash, TooMany, BadTime, Unknown, BadAmount, LogFull, FaultyRecord, RegisterFull, IdentityClash, OverReported, Unfit, AccountFull}

-- the number of a refusal
abbrev pub refusal_number : Refusal → ℕ
refusal_number NoRoom = 1
refusal_number Unsound = 2
refusal_number ArmedAlready = 3
refusal_number NotArmed = 4
refusal_number ProfileLength = 5
refusal_number Malformed = 6
refusal_number OtherFirm = 7
refusal_number OutOfRange = 8
refusal_number LevelClash = 9
refusal_number UnitClash = 10
refusal_number TooMany = 11
refusal_number BadTime = 12
refusal_number Unknown = 13
refusal_number BadAmount = 14
refusal_number LogFull = 15
refusal_number FaultyRecord = 16
refusal_number RegisterFull = 17
refusal_number IdentityClash = 18
refusal_number OverReported = 19
refusal_number Unfit = 20
refusal_number AccountFull = 21

-- the number that a test answers: 0 where it passes, else that of the refusal
abbrev pub refused_with : {A : Type 0} → Result A Refusal → ℕ
refused_with (Ok x) = 0
refused_with (Err r) = refusal_number r

-- an answer with the number of its refusal
abbrev pub numbered : {A : Type 0} → Result A Refusal → Result A ℕ
numbered (Ok x) = Ok x
numbered (Err r) = Err (refusal_number r)
