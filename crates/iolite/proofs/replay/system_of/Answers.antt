use Rattle.std.proofs.Common.{◌≡◌, ◌∙◌, ◌*◌, ℕ, Bool, false, List, ap}
use Rattle.std.specs.Prelude.{replicate}
use Rattle.iol_core.specs.State.{new_state}
use Rattle.iol_core.specs.declared.configuration.Config.{Config}
use Rattle.iol_core.specs.declared.limits.TheConstants.{CHUNK_PAGES}
use Rattle.iol_back.specs.Disk.{Disk}
use Rattle.iol_system.specs.Prelude.{no_entry, slots_of}
use Rattle.iolite.proofs.replay.system_of.Goals as goal

same_disk : (d : Disk) (slots : List (List ℕ)) (n : ℕ) (h : Bool) (reported : List ℕ) → d.slots ≡ slots → d.failures ≡ n
    → d.honest ≡ h → d.reported ≡ reported → d ≡ record { slots = slots; failures = n; honest = h; reported = reported }
same_disk d slots n h reported a b c e =
    let one : List (List ℕ) → Disk = λ l. record {
      slots = l;
      failures = d.failures;
      honest = d.honest;
      reported = d.reported;
    } in
    let two : ℕ → Disk = λ k. record { slots = slots; failures = k; honest = d.honest; reported = d.reported } in
    let three : Bool → Disk = λ z. record { slots = slots; failures = n; honest = z; reported = d.reported } in
    let four : List ℕ → Disk = λ l. record { slots = slots; failures = n; honest = h; reported = l } in
    ap one a ∙ (ap two b ∙ (ap three c ∙ ap four e))

pub returns-in-Ok-clause-new : goal.returns-in-Ok-clause-new
returns-in-Ok-clause-new c =
    let e = c.in-Ok.ensures in
    let slots : c.in-Ok.system.disk.slots ≡ c.args.setup.slots = ap (λ (d : Disk). d.slots) e.disk
    ∙ (ap (λ (d : Disk). d.slots) c.new-store.ensures.inner ∙ c.new.ensures.slots) in
    let honest = ap (λ (d : Disk). d.honest) e.disk
    ∙ (ap (λ (d : Disk). d.honest) c.new-store.ensures.inner ∙ c.new.ensures.honest) in
    let reported = ap (λ (d : Disk). d.reported) e.disk
    ∙ (ap (λ (d : Disk). d.reported) c.new-store.ensures.inner ∙ c.new.ensures.reported) in
    let failures = ap (λ (d : Disk). d.failures) e.disk ∙ c.new-store.ensures.failures in record {
      machine = e.new ∙ ap (λ l. new_state (slots_of l)) slots;
      store = same_disk c.in-Ok.system.disk c.args.setup.slots 0 _ _ slots failures honest reported;
      entries = e.entries ∙ ap (λ (k : Config). replicate (k.chunks * CHUNK_PAGES) no_entry) c.unwrap_or-config.ensures;
      taken = e.taken ∙ ap (λ (k : Config). replicate k.chunks false) c.unwrap_or-config.ensures;
      limit = e.limit ∙ ap (λ (k : Config). k.gen_limit) c.unwrap_or-config.ensures;
      sums = e.sums;
      sum_limit = e.sum_limit ∙ ap (λ (k : Config). k.sums) c.unwrap_or-config.ensures;
      orders = e.orders;
    }
