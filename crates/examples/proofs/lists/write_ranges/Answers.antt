use Rattle.std.proofs.Common.{◌∙◌}
use Rattle.examples.specs.Wire.{range_bytes}
use Rattle.examples.proofs.Told.{as_span, list-map}
use Rattle.examples.proofs.lists.write_ranges.Goals as goal

pub returns : goal.returns
returns c = c.in_ok-bytes.ensures ∙ list-map range_bytes as_span c.args.ranges.now
