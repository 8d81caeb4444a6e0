-- What was chosen are the pairs of the two subsets.
use mathlib.Core.Path.{◌∙◌}
use Rattle.search.proofs.Files.{two_fit, two_end, two_written}
use Rattle.search.proofs.Subsets.write.Goals as goal

pub write_two-requires-clause-room : goal.write_two-requires-clause-room
write_two-requires-clause-room c =
    two_fit _ _ _ (c.as_slice.ensures.value ∙ c.choose-first.ensures) (c.as_slice-2.ensures.value ∙ c.choose-second.ensures) c.requires

pub returns-clause-bytes : goal.returns-clause-bytes
returns-clause-bytes c =
    two_end _ _ _ (c.as_slice.ensures.value ∙ c.choose-first.ensures) (c.as_slice-2.ensures.value ∙ c.choose-second.ensures) c.write_two.ensures.end

pub returns-clause-written : goal.returns-clause-written
returns-clause-written c =
    two_written _ _ _ (c.as_slice.ensures.value ∙ c.choose-first.ensures) (c.as_slice-2.ensures.value ∙ c.choose-second.ensures) _ c.write_two.ensures.written
