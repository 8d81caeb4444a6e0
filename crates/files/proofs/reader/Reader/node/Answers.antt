-- By the tag of the byte there, which the laws' conclusions do not name.
use Rattle.std.proofs.Common.{rules, arith}
use Rattle.files.proofs.Nodes.{node_slip, node_limited, node_read}
use Rattle.files.proofs.reader.Reader.node.Goals as goal

pub returns-then-is_tag-clause-gives : goal.returns-then-is_tag-clause-gives
returns-then-is_tag-clause-gives c =
    let t = c.is_tag.ensures.yes (search rules) in
    node_slip _ _ _ _ _ t.0 (search rules) (search rules) (search rules)

pub returns-clause-gives : goal.returns-clause-gives
returns-clause-gives c = node_read _ _ _ _ _ c.in-Ok.tag (search rules) (search rules) (search rules) (search rules)

pub returns-in_err-limit-clause-gives : goal.returns-in_err-limit-clause-gives
returns-in_err-limit-clause-gives c =
    let p = c.args.self.now in
    let l = node_limited p.bytes c.args.sort c.args.left p.at p.nodes c.in-Ok.tag (search rules) (search rules) (search rules) in
    grind (arith, l)
