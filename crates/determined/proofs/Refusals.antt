-- The contracts of `refusals` determine what a call gives: one theorem for each public function. Assumes nothing.
use mathlib.Core.Path.{refl}
use Rattle.determined.specs.Determines.{Determines, DeterminesPrinted}
use Rattle.laws.proofs.One.{alike}
use Rattle.refusals.proofs.Refusal.number.Kinds as refusal-number-kinds
use Rattle.refusals.proofs.Refusal.number.Reads as refusal-number-reads
use Rattle.refusals.proofs.RefusalDisplay.fmt.Kinds as refusal-display-fmt-kinds
use Rattle.refusals.proofs.RefusalDisplay.fmt.Reads as refusal-display-fmt-reads

pub refusal-number : Determines 0 refusal-number-kinds.ps refusal-number-kinds.r refusal-number-reads.Asked refusal-number-reads.Learnt
refusal-number κs args asked x y u v p q = (alike p q, refl)

-- the text is one, by each refusal's output; whether a writer takes it is the writer's own answer
pub refusal-display-fmt : DeterminesPrinted 3 refusal-display-fmt-kinds.ps refusal-display-fmt-kinds.r (λ W L κs args. args.1.0.now) (λ W L κs args u. u.1.0) (λ W L κs x. x) refusal-display-fmt-reads.Asked refusal-display-fmt-reads.Learnt
refusal-display-fmt W L g d Seen sees one κs args asked flush x y u v p ok q done = one _ _ _ _ (p.1 flush ok).wrote (q.1 flush done).wrote
