use Rattle.std.proofs.Common.{[], ◌≡◌, ◌∙◌, List, map, ap, sym, rules}
use Rattle.std.specs.Prelude.{unwrap_or}
use Rattle.iol_core.specs.Text.{bytes_of}
use Rattle.std.specs.List.{concat, flat_map}
use Rattle.std.proofs.lemmas.List.Concat.{concat_is}
use Rattle.iol_hold.specs.Addresses.{Located, address_at, spread}
use Rattle.iol_hold.specs.Places.{places}
use Rattle.iol_hold.specs.declared.slices.Slice.{Slice}
use Rattle.iol_agg.specs.Parts.{located_parts, parts_of}
use Rattle.iol_agg.proofs.Addresses.{spread_parts}
use Rattle.iol_agg.proofs.Partwise.{bytes-located_parts, flat_map-parts_of}
use Rattle.iol_kernel.specs.Kernel.{state_of}
use Rattle.iol_kernel.specs.Readings.{bytes_over}
use Rattle.iol_kernel.specs.KernelState.{slices_in}
use Rattle.iol_kernel.proofs.State.Sound.{agg_readable}
use Rattle.iol_kernel.proofs.kernel.Kernel.located_parts.Goals as goal

pub located_parts-requires : goal.located_parts-requires
located_parts-requires c =
    agg_readable (state_of c.args.self.now) c.args.by c.args.agg c.in_ok-found.found.now c.requires
    c.in_ok-found.ensures.ok.found

pub returns-clause-ok : goal.returns-clause-ok
returns-clause-ok c =
    let h = state_of c.args.self.now in
    let s = c.args.self.now.store in
    let xs = c.in_ok-found.found.now in
    let readable = agg_readable h c.args.by c.args.agg xs c.requires c.in_ok-found.ensures.ok.found in
    let bytes = ap (λ (l : List Located). concat (map (λ (x : Located). x.bytes) l)) c.located_parts.ensures
    ∙ ap concat (bytes-located_parts s xs) ∙ concat_is (parts_of s xs)
    ∙ flat_map-parts_of s xs readable ∙ ap bytes_of (sym (c.in_ok-found.ensures.ok.text (bytes_over [] s))) in
    let none : List Slice = [] in
    let held : xs ≡ slices_in h.domains c.args.by c.args.agg =
    ap (λ o. unwrap_or o none) c.in_ok-found.ensures.ok.found in
    record {
      shows = search (rules, bytes);
      at = c.located_parts.ensures ∙ ap (located_parts s) held;
      addresses = ap (λ (l : List Located). flat_map spread l) c.located_parts.ensures ∙ spread_parts s xs readable
          ∙ ap (λ (l : List Slice). map (address_at s) (places l)) held;
    }
