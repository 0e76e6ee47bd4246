-- The bytes of a domain's aggregate, and their addresses.
use Rattle.std.specs.Prelude.{◌≡◌, ℕ, List, map}
use Rattle.std.specs.List.{concat, flat_map}
use Rattle.std.specs.Ptr.{Ptr}
use Rattle.iol_hold.specs.Prelude.{Located, address_at, places, spread}
use Rattle.iol_agg.specs.Parts.{located_parts}
use Rattle.iol_kernel.specs.Calls.{Shows}
use Rattle.iol_kernel.specs.KernelState.{KernelState, slices_in}

-- the addresses of the bytes of a domain's aggregate, in order
abbrev pub addresses_of : KernelState → (d a : ℕ) → List Ptr
addresses_of h d a = map (address_at h.store) (places (slices_in h.domains d a))

-- The parts are the slices of a domain's aggregate, in order, each at its address. Their bytes are those that `show`
-- returns, for each content of the store under the files, and the addresses of these bytes are those of the
-- aggregate's.
pub record Locates (d a : ℕ) (parts : List Located) (h : KernelState) : Type 0 where
  pub shows : Shows d a (concat (map (λ (x : Located). x.bytes) parts)) h
  pub at : parts ≡ located_parts h.store (slices_in h.domains d a)
  pub addresses : flat_map spread parts ≡ addresses_of h d a
