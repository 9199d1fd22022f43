-- `answering::arm` meets its contract: each arm is given whether the profile is accepted. Assumes nothing.
use mathlib.Core.Path.{refl, sym, ap, ◌∙◌}
use native.Mathlib.Omega.{arith}
use Rattle.profile.specs.Reading.{reading_told}
use Rattle.answering.specs.Run.{is_armed}
use Rattle.answering.proofs.Runs.{opened}
use Rattle.answering.proofs.arm.Goals as goal

pub returns-in-Ok : goal.returns-in-Ok
unfolding is_armed
returns-in-Ok c =
    let is = sym c.arm-arming.ensures.value ∙ ap reading_told c.in-Ok.is in
    let o = opened is refl c.args.room.now c.put_armed-bytes.new.room c.put_armed-bytes.result (omega (arith, c.put_armed-bytes.ensures.fits_room.inside)) c.put_armed-bytes.ensures.value c.put_armed-bytes.ensures.room_after in
    record { fits_room = record { inside = omega (arith, c.put_armed-bytes.ensures.fits_room.inside, c.put_armed-bytes.auto.room) }; value = o.0; m_after = c.arm-arming.ensures.m_after; room_after = o.1 }

pub returns-in-Err : goal.returns-in-Err
unfolding is_armed
returns-in-Err c =
    let is = sym c.arm-arming.ensures.value ∙ ap reading_told c.in-Err.is in
    let o = opened is refl c.args.room.now c.put_refused-bytes.new.room c.put_refused-bytes.result (omega (arith, c.put_refused-bytes.ensures.fits_room.inside)) c.put_refused-bytes.ensures.value c.put_refused-bytes.ensures.room_after in
    record { fits_room = record { inside = omega (arith, c.put_refused-bytes.ensures.fits_room.inside, c.put_refused-bytes.auto.room) }; value = o.0; m_after = c.arm-arming.ensures.m_after; room_after = o.1 }
