use Rattle.std.proofs.Common.{[], ◌∙◌, ap, refl, sym, arith, length, List, ℕ}
use Rattle.std.proofs.lemmas.List.{length-map}
use Rattle.iol_core.specs.State.{Domain}
use Rattle.iol_core.specs.Text.{labelled}
use Rattle.iol_hold.specs.Room.{lowest_of}
use Rattle.iol_hold.specs.declared.slices.Slice.{Slice}
use Rattle.iol_hold.proofs.PageChanges.{keeps_pages_made}
use Rattle.iol_desc.specs.Tables.{domains_of, domain_in, with_agg_in}
use Rattle.iol_kernel.specs.NewAggregates.{AddsText}
use Rattle.iol_kernel.specs.Kernel.{state_of}
use Rattle.iol_kernel.specs.Readings.{bytes_over}
use Rattle.iol_kernel.proofs.AggregateCalls.SliceCounts.{few_made}
use Rattle.iol_kernel.proofs.State.Effects.{few_aggs, few_kept, placed-machine, placed_alone, placed-sound}
use Rattle.iol_kernel.proofs.State.ReadOf.{live_held, next_agg-read_of, closed-read_of}
use Rattle.iol_kernel.proofs.kernel.Kernel.fill_agg.Goals as goal
use Rattle.iol_kernel.proofs.kernel.Kernel.fill_agg.Goals.{After-add_agg}

pub fill-requires : goal.fill-requires
fill-requires c =
    record { «open» = sym (closed-read_of _ (state_of c.args.self.now) c.args.pool) ∙ c.requires.may.opened }

pub add_agg-requires-clause-few : goal.add_agg-requires-clause-few
add_agg-requires-clause-few c =
    (let few = few_kept (state_of c.args.self.now) c.args.by c.requires.may.few c.in_ok-reserve_aggs.ensures.same in
    omega (arith, few))

-- the domain got the bytes
added : (c : After-add_agg)
    → AddsText c.args.self.now.store c.fill.new.store (domains_of c.args.self.now.domains)
    (domains_of c.add_agg.new.self) c.args.by (labelled c.args.pool c.args.bytes.now)
    (lowest_of c.args.self.now.store c.args.pool (length c.args.bytes.now))
added c =
    let e = c.in_ok-agg.ensures in
    record {
      slices = c.in_ok-agg.agg;
      is_text = e.text;
      readable = e.readable;
      moves = e.moves;
      made_on = e.made_on;
      pages = keeps_pages_made e.made_on e.others e.grows e.pools;
      reclaims = e.reclaims;
      pools = e.pools;
      added = c.add_agg.ensures.added
          ∙ ap (λ (ds : List (Domain (List Slice))). with_agg_in ds c.args.by c.in_ok-agg.agg)
          c.in_ok-reserve_aggs.ensures.same;
    }

pub returns : goal.returns
returns c =
    let h = state_of c.args.self.now in
    let e = c.in_ok-agg.ensures in
    let t = c.fill.new.store in
    let ds = domains_of c.add_agg.new.self in
    let all = added (goal.at.returns c).After-add_agg in
    record {
      next = record {
        number = λ f. c.add_agg.ensures.number
            ∙ ap (λ (xs : List (Domain (List Slice))). (domain_in xs c.args.by).next_agg)
            c.in_ok-reserve_aggs.ensures.same ∙ sym (next_agg-read_of f h c.args.by);
        placed = placed-machine h t ds c.args.by _ _ c.requires.sound all;
        made = placed_alone h t ds c.args.by c.args.pool (length c.args.bytes.now) _ c.requires.sound all;
        cache = refl;
        sound = placed-sound h t ds c.args.by _ _ c.requires.sound (live_held _ h c.args.by c.requires.may.live)
            (omega (arith, few_aggs (bytes_over [] h.store) h c.args.by 1 0 c.requires.may.few))
            (omega (arith, length-map {B = ℕ × ℕ} c.args.bytes.now (λ b. (b, c.args.pool)), c.requires.may.small)) all;
        stays = e.moves.stays;
        room = record { room = e.room; no_room = λ p is. absurd (cc is) };
        late = tt;
        err = tt;
      };
      slices = record {
        slices = all.slices;
        few = few_made c.args.self.now.store c.args.self.now.store.arena t.arena all.slices c.args.pool
            (length c.args.bytes.now) all.made_on;
        added = all.added;
      };
    }
