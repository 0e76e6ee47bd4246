use Rattle.std.proofs.Common.{◌≡◌, ◌∙◌, ℕ, List, [], rules, length, refl, subst, sym}
use Rattle.std.specs.Prelude.{Result, Err}
use Rattle.iol_arena.specs.State.{pages_for}
use Rattle.iol_core.specs.Calls.Aggregates.{agg_make, default_pool, with_agg}
use Rattle.iol_core.specs.declared.refusals.Refusal.{Refusal}
use Rattle.iol_kernel.specs.Kernel.{state_of, machine}
use Rattle.iol_kernel.specs.NewBytes.{MakesAggregate}
use Rattle.iol_kernel.specs.Readings.{bytes_over}
use Rattle.iol_kernel.proofs.AggregateCalls.NewAggregates.{make_tests, may_after, make_none, make_places}
use Rattle.iol_kernel.proofs.AggregateCalls.SliceCounts.{few_after}
use Rattle.iol_kernel.proofs.State.AfterRoom.{places_refused}
use Rattle.iol_kernel.proofs.State.ReadOf.{closed-read_of}
use Rattle.iol_kernel.proofs.kernel.Kernel.agg_make.Goals as goal

pub returns-in_err-pool : goal.returns-in_err-pool
returns-in_err-pool c =
    let h = state_of c.args.self.now in
    let is : ◌≡◌ {A = Result ℕ Refusal} (Err c.in_err-pool.field-0.0) c.from_residual.result = search (rules) in
    subst (λ (r : Result ℕ Refusal). MakesAggregate c.args.by c.args.bytes.now h r h) is (record {
      places = places_refused (λ s. agg_make s c.args.by c.args.bytes.now) (λ s t. with_agg s c.args.by t)
          (default_pool (machine c.args.self.now) c.args.by) (length c.args.bytes.now) h c.in_err-pool.field-0.0
          c.requires (search (rules)) (search (rules)) (make_tests c.args.by c.args.bytes.now);
      slices = tt;
    })

pub make_room_for-requires : goal.make_room_for-requires
make_room_for-requires c =
    record {
      sound = c.requires;
      opened =
          sym (closed-read_of (bytes_over [] c.args.self.now.store) (state_of c.args.self.now) c.in_ok-pool.pool)
          ∙ c.in_ok-pool.ensures.may.opened;
    }

pub returns-then-not-make_room_for : goal.returns-then-not-make_room_for
returns-then-not-make_room_for c =
    let h = state_of c.args.self.now in
    let k = state_of c.make_room_for.new.self in
    let passes = c.in_ok-pool.ensures.may in
    let room = c.make_room_for.ensures in
    record {
      places =
          make_none c.in_ok-pool.pool c.args.by c.args.bytes.now h k room.made
          (room.refused c.if-not-make_room_for.true) passes (room.fits ∙ c.if-not-make_room_for.true);
      slices = tt;
    }

pub fill_agg-requires-clause-may : goal.fill_agg-requires-clause-may
fill_agg-requires-clause-may c =
    may_after c.in_ok-pool.pool (pages_for (length c.args.bytes.now)) (state_of c.args.self.now)
    (state_of c.make_room_for.new.self) c.make_room_for.ensures.made c.args.by c.args.bytes.now c.in_ok-pool.pool
    c.in_ok-pool.ensures.may

pub returns : goal.returns
returns c =
    let h = state_of c.args.self.now in
    let k = state_of c.make_room_for.new.self in
    let l = state_of c.fill_agg.new.self in
    let passes = c.in_ok-pool.ensures.may in
    let room = c.make_room_for.ensures in
    let bytes : List ℕ = c.args.bytes.now in
    record {
      places = make_places c.in_ok-pool.pool (pages_for (length bytes)) h k room.made c.args.by bytes passes l
          c.fill_agg.result
          (room.room c.if-not-make_room_for.false) (room.fits ∙ c.if-not-make_room_for.false) c.fill_agg.ensures.next
          refl;
      slices = few_after c.in_ok-pool.pool (pages_for (length bytes)) c.args.by (length bytes) h k l c.fill_agg.result
          room.made c.fill_agg.ensures.slices;
    }
