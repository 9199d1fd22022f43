-- Each figure of the account by the list of events and their answers, newest first. Assumes nothing.
use Rattle.std.specs.Prelude.{ℕ, Bool, false, cond, ◌&&◌, List, [], ◌∷◌, eqb}
use Rattle.rules.specs.declared.Level.{Level}
use Rattle.machine.specs.Answer.{Answer, Refused, Judged, Left, Standing}
use Rattle.machine.specs.declared.Sent.{Sent}
use Rattle.machine.specs.Register.{sent_at}
use Rattle.machine.specs.Calls.{Call, order, lockout, offer, remaining, status, send, report, close}
use Rattle.demand.specs.Run.{Event}
use Rattle.figures.specs.declared.Figures.{Figures}
use Rattle.figures.specs.declared.Happening.{Happening}
use Rattle.figures.specs.Happenings.{happening_of}
use Rattle.figures.specs.Figures.{is_of_level, figures_of, no_figures, plus}

-- a verdict of 0
unfoldable pub is_free : Answer → Bool
is_free (Refused n) = false
is_free (Judged verdict grant roottrip firmtrip) = eqb verdict 0
is_free (Left n) = false
is_free (Standing roots) = false

-- the root of the order that was last sent under an identity: by its sending among the events or, if there is none, by the register that the account
-- was begun beside
unfoldable pub root_after : Call → Answer → (ℕ → ℕ) → ℕ → ℕ
root_after (order time root reset) answer earlier identity = earlier identity
root_after (lockout time level root) answer earlier identity = earlier identity
root_after (offer o) answer earlier identity = earlier identity
root_after (remaining time rule unit) answer earlier identity = earlier identity
root_after status answer earlier identity = earlier identity
root_after (send o sent reports) answer earlier identity = cond (is_free answer && eqb sent identity) o.root (earlier identity)
root_after (report time sent n) answer earlier identity = earlier identity
root_after (close time sent) answer earlier identity = earlier identity

unfoldable pub root_sent : List Sent → List Event → ℕ → ℕ
root_sent register [] identity = (sent_at register identity).root
root_sent register (event ∷ earlier) identity = root_after event.call event.answer (root_sent register earlier) identity

-- what an event adds to a level's row: to a row that it is not of, nothing
unfoldable pub added_to : Level → Happening → Figures
added_to level h = cond (is_of_level level h) (figures_of level h) no_figures

-- the figures of a level: what all events add
unfoldable pub figures_in : List Sent → List Event → Level → Figures
figures_in register [] level = no_figures
figures_in register (event ∷ earlier) level =
    plus (figures_in register earlier level) (added_to level (happening_of (root_sent register earlier) event.call event.answer))
