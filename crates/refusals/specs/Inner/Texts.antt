-- The texts of the refusals. Assumes nothing.
use Rattle.std.specs.Prelude.{ℕ, List, codes}
use Rattle.refusals.specs.declared.Refusal.{Refusal}
use Rattle.refusals.specs.declared.Refusal.TheVariants.{NoRoom, Unsound, ArmedAlready, NotArmed, ProfileLength, Malformed, OtherFirm, OutOfRange, LevelClash, UnitClash, TooMany, BadTime, Unknown, BadAmount, LogFull, FaultyRecord, RegisterFull, IdentityClash, OverReported, Unfit, AccountFull}

-- the text that a refusal is printed as
abbrev pub refusal_text : Refusal → List ℕ
refusal_text NoRoom = codes "the memory, the account or the room is short"
refusal_text Unsound = codes "the state is not sound"
refusal_text ArmedAlready = codes "the memory is armed already"
refusal_text NotArmed = codes "the memory is not armed"
refusal_text ProfileLength = codes "the profile is empty or too long"
refusal_text Malformed = codes "a line is malformed"
refusal_text OtherFirm = codes "a line names another firm"
refusal_text OutOfRange = codes "a limit or a window is out of range"
refusal_text LevelClash = codes "a line has a root with T, or neither"
refusal_text UnitClash = codes "call/put and month do not go together"
refusal_text TooMany = codes "there is one rule or root too many"
refusal_text BadTime = codes "the time is out of range or below the clock"
refusal_text Unknown = codes "there is nothing of that number or name"
refusal_text BadAmount = codes "a premium, contracts or reports are out of range"
refusal_text LogFull = codes "the log has too few places free"
refusal_text FaultyRecord = codes "the record is faulty"
refusal_text RegisterFull = codes "the register is full"
refusal_text IdentityClash = codes "the identity is open already, or is not open"
refusal_text OverReported = codes "more is reported than is open"
refusal_text Unfit = codes "the record does not fit the old form"
refusal_text AccountFull = codes "a figure of the account would be too large"
