use Rattle.iol_hold.specs.Addresses.{Located}
use Rattle.iol_hold.proofs.slices.Slice.located_bytes.Goals as goal

pub returns : goal.returns
returns c =
    let value = c.bytes.ensures.value in
    let place = c.bytes.ensures.place in
    λ i. (let x : Located = record { bytes = value i; at = place i } in x)
