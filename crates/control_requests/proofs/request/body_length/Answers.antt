use Rattle.std.proofs.Common.{◌∙◌, option_map, ap}
use Rattle.httparse.specs.Borrowed.{header_parts}
use Rattle.control_requests.specs.Digits.{up_to}
use Rattle.control_requests.proofs.FieldLemmas.{length_seen}
use Rattle.control_requests.proofs.request.body_length.Goals as goal

pub returns : goal.returns
returns c = c.length_in.ensures ∙ ap (option_map (up_to 4096)) (length_seen header_parts c.args.headers.now)
