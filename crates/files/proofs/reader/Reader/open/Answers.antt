use Rattle.files.proofs.Framing.{policy_framed}
use Rattle.files.proofs.reader.Reader.open.Goals as goal

pub returns-in_err-body_of-clause-refused : goal.returns-in_err-body_of-clause-refused
returns-in_err-body_of-clause-refused c = policy_framed _ _ _ c.from_residual.ensures.1 (c.in_err-body_of.ensures.refused 1)
