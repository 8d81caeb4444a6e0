-- The places are noted in the file, which is that of the policy.
use mathlib.Core.Path.{sym, ap, subst, ◌∙◌}
use Rattle.files.specs.Encoding.{policy_file}
use Rattle.flat.specs.Places.{Noted}
use Rattle.flat.proofs.Noting.{noted_policy}
use Rattle.flat.proofs.policy.FlatPolicy.places.Goals as goal

pub returns : goal.returns
returns c =
    let w = c.self.invariant in
    subst (λ b. Noted b c.self.inside.places.now) (w.file.file ∙ ap policy_file (sym (noted_policy w.file) ∙ c.self.view_is)) w
