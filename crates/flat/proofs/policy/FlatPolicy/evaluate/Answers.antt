-- The walk's answer is that for the policy in the file.
use mathlib.Core.Path.{sym, ap, ◌∙◌}
use Rattle.ptacl.specs.Values.{code}
use Rattle.ptacl.specs.Meaning.{eval}
use Rattle.flat.proofs.Noting.{noted_policy}
use Rattle.flat.proofs.policy.FlatPolicy.evaluate.Goals as goal

pub returns : goal.returns
returns c =
    let w = c.self.invariant in
    c.walk.ensures w.term w.file ∙ ap (λ p. code (eval p c.args.request.now)) (sym (noted_policy w.file) ∙ c.self.view_is)
