-- Two files in one space: the second is written into the part that is lent on.
use Rattle.std.proofs.Common.{◌≡◌, map, length}
use Rattle.std.proofs.lemmas.List.{length-map}
use Rattle.files.specs.Encoding.{request_file}
use Rattle.files.specs.Tags.{pair_of}
use Rattle.files.proofs.Memory.{over_lent, request_length}
use Rattle.files.proofs.write.write_two.Goals as goal

pub returns-clause-written : goal.returns-clause-written
returns-clause-written c =
    let w = c.write_request-end in
    let l : w.result ≡ length (request_file (map pair_of c.args.first.now)) = rw (request_length, length-map) w.ensures.end in
    over_lent _ _ c.args.space.now _ _ w.result l w.ensures.written c.write_request.ensures.written
