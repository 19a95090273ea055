use Rattle.packed.specs.Coding.{round_trip}
use Rattle.packed.proofs.Canon.{canonical}
use Rattle.packed.proofs.creation.bytes_stand.Goals as goal

pub returns : goal.returns
returns c = record { round = round_trip; canonical = canonical }
