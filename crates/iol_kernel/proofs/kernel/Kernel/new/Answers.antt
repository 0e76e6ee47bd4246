use Rattle.std.proofs.Common.{rules, ◌≡◌, ◌∙◌, ap, inr, refl, subst, sym, List, [], ◌∷◌, ◌++◌, ◌*◌}
use Rattle.std.specs.Prelude.{Result, Ok, Err, ◌↔◌}
use Rattle.iol_core.specs.Configuration.{IsInRange}
use Rattle.iol_core.specs.declared.configuration.Config.{Config}
use Rattle.iol_core.specs.declared.refusals.Refusal.{Refusal}
use Rattle.iol_core.specs.declared.refusals.Refusal.TheVariants.{BadRange, Memory}
use Rattle.iol_core.specs.State.{new_domain}
use Rattle.iol_hold.specs.declared.slices.Slice.{Slice}
use Rattle.iol_desc.specs.Tables.{Row, domains_of}
use Rattle.iol_cache.specs.Cache.{cached_of}
use Rattle.iol_kernel.specs.NewKernel.{MakesKernel}
use Rattle.iol_kernel.specs.KernelState.{KernelState}
use Rattle.iol_kernel.specs.declared.kernel.Kernel.{Kernel}
use Rattle.iol_kernel.proofs.State.NewKernel.{new-machine, new-sound, none_of, some_sums}
use Rattle.iol_kernel.proofs.kernel.Kernel.new.Goals as goal

pub new-requires-2 : goal.new-requires-2
new-requires-2 c = some_sums c.args.config c.new.result c.in_ok-store.store c.new.ensures.range (search (rules))

-- if memory ran out, the sizes are in their ranges, because there is a store of these sizes
unmade : (config : Config) {A : Type 0} (s : Result A Refusal) (x : A) (r : Result Kernel Refusal)
    → (s ≡ Err BadRange) ↔ (IsInRange config → ⊥) → s ≡ Ok x → r ≡ Err Memory → MakesKernel config r
unmade config s x r range made is = subst (λ (t : Result Kernel Refusal). MakesKernel config t) (sym is) (record {
  range = ((λ e. absurd (cc e)), (λ out. (let bad : s ≡ Err BadRange = range.1 out in absurd (cc (bad, made)))));
  errors = inr refl;
  new = tt;
  entries = tt;
  taken = tt;
  limit = tt;
  sums = tt;
  sum_limit = tt;
  orders = tt;
  sound = tt;
})

pub returns-in_err-sums : goal.returns-in_err-sums
returns-in_err-sums c =
    let memory : c.from_residual-in_err-sums.result ≡ Err Memory = search (rules) in
    unmade c.args.config c.new.result c.in_ok-store.store _ c.new.ensures.range (search (rules)) memory

pub returns-in_err-files : goal.returns-in_err-files
returns-in_err-files c =
    let memory : c.from_residual-in_err-files.result ≡ Err Memory = search (rules) in
    unmade c.args.config c.new.result c.in_ok-store.store _ c.new.ensures.range (search (rules)) memory

pub returns : goal.returns
returns c =
    let h : KernelState = record {
      store = c.in_ok-store.store;
      domains = domains_of c.add_domain.new.self;
      pipes =
          c.new-pipes.result.places;
      conns = c.new-conns.result.conns;
      next_conn = c.new-conns.result.next;
      sums =
          c.in_ok-sums.sums;
      files = c.in_ok-files.files.table.files;
      cache = cached_of c.in_ok-files.files.cache;
    } in
    let one = c.in_ok-add_domain.ensures.ok
    ∙ ap (λ (rows : List (Row (List Slice))). domains_of rows ++ new_domain ∷ []) c.new-domains.ensures in
    let none = none_of c.new-pipes.ensures c.new-conns.ensures.none c.new-conns.ensures.next c.in_ok-files.ensures.none
    c.in_ok-files.ensures.cached in
    let made = c.in_ok-store.ensures in
    let new = new-machine h one made.pools none in
    let sound = new-sound h (c.args.config.chunks * 16) one made.all_free.entries made.tidy made.reclaimed none
    made.pools (c.in_ok-sums.ensures.right c.in_ok-store.store.arena) c.in_ok-files.ensures.sound in
    search (rules, new, sound)
