-- By the tag of the run there, which the laws' conclusions do not name.
use Rattle.std.proofs.Common.{rules}
use Rattle.text.proofs.Heads.{word_slip, word_limited, word_within}
use Rattle.text.proofs.words.WordsSource.next_node.Goals as goal

pub returns-then-not-is_of-clause-gives : goal.returns-then-not-is_of-clause-gives
returns-then-not-is_of-clause-gives c =
    rw (c.fault-then-not-is_of.ensures.number, c.fault-then-not-is_of.ensures.place)
    (word_slip _ _ _ _ _ _ (search rules) c.in-Some.tag (search rules) (search rules))

pub returns-in-Err-clause-gives : goal.returns-in-Err-clause-gives
returns-in-Err-clause-gives c =
    rw (c.beyond.ensures.number, c.beyond.ensures.place)
    (word_limited _ _ _ _ _ _ (search rules) c.in-Some.tag (search rules) (search rules) _ (search rules))

pub returns-in_err-pass-clause-gives : goal.returns-in_err-pass-clause-gives
returns-in_err-pass-clause-gives c =
    let p = c.args.self.now in
    let w = word_within p.bytes c.args.sort c.args.left c.args.end p.at p.nodes (search rules) c.in-Some.tag (search rules) (search rules) (search rules) in
    search rules

pub returns-clause-gives : goal.returns-clause-gives
returns-clause-gives c =
    let p = c.args.self.now in
    let w = word_within p.bytes c.args.sort c.args.left c.args.end p.at p.nodes (search rules) c.in-Some.tag (search rules) (search rules) (search rules) in
    search rules
