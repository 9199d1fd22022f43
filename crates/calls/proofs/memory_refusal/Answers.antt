-- `calls::memory_refusal` meets its contract: 1, then 4, then 2. Assumes nothing.
use Rattle.calls.proofs.Armed.{refusal-short, refusal-unarmed, refusal-unsound, refusal-none}
use mathlib.Core.Bool.{not}
use mathlib.Core.Path.{ap}
use Rattle.calls.proofs.memory_refusal.Goals as goal

pub returns-then-m-lt-SIZE : goal.returns-then-m-lt-SIZE
returns-then-m-lt-SIZE c = refusal-short _ c.if-m-lt-SIZE.true

pub returns-then-m-eq0 : goal.returns-then-m-eq0
returns-then-m-eq0 c = refusal-unarmed _ c.if-m-lt-SIZE.false c.if-m-eq0.true

pub returns-then-not-is_sound : goal.returns-then-not-is_sound
returns-then-not-is_sound c = refusal-unsound _ c.if-m-lt-SIZE.false c.if-m-eq0.false _ c.is_sound.ensures (ap not c.if-not-is_sound.true)

pub returns : goal.returns
returns c = refusal-none _ c.if-m-lt-SIZE.false c.if-m-eq0.false _ c.is_sound.ensures (ap not c.if-not-is_sound.false)
