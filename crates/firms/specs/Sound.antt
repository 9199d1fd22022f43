-- When a state is sound, and the places that each firm has. Assumes nothing.
use Rattle.std.specs.Prelude.{ℕ, ◌+◌, ◌≤◌, ◌≡◌, true, length}
use Rattle.machine.specs.State.{Profile, State}
use Rattle.machine.specs.Judge.{log_places}
use Rattle.machine.specs.Sound.{SoundIn}
use Rattle.firms.specs.Seats.{Seat, empty, taken, Seats, entries_in, use_of}
use Rattle.firms.specs.Doings.{is_taken, name_of}

-- an empty seat is sound, and one that is taken if its firm's state is
unfoldable pub SoundSeat : (Profile → Type 0) → Seat → Type 0
SoundSeat Given empty = Unit {0}
SoundSeat Given (taken s) = SoundIn Given s

pub record SoundSeats (Given : Profile → Type 0) (u : Seats) : Type 0 where
  pub first : SoundSeat Given u.first
  pub second : SoundSeat Given u.second
  -- the names of two armed firms differ
  pub differ : is_taken u.first ≡ true → is_taken u.second ≡ true → name_of u.first ≡ name_of u.second → ⊥
  -- at most 512 entries, and both uses, each at its own clock, together at most 512
  pub entries : length (entries_in u.first) + length (entries_in u.second) ≤ log_places
  pub uses : use_of u.first + use_of u.second ≤ log_places

-- what every history has besides: no firm's use passes 320, so that each has 192 places of its own
pub record Fair (u : Seats) : Type 0 where
  pub first : use_of u.first ≤ 320
  pub second : use_of u.second ≤ 320
