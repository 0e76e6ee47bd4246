use Rattle.std.proofs.Common.{IfOk, ℕ, Bool, List, [], ◌∷◌, subst}
use Rattle.std.specs.Prelude.{Result, Ok, Err}
use Rattle.iol_core.specs.declared.events.Event.TheVariants as event
use Rattle.iol_core.specs.declared.events.Reply.{Reply}
use Rattle.iol_system.specs.Prelude.{slots_of}
use Rattle.iol_proc.specs.World.{WorldState, copied}
use Rattle.iol_proc.specs.declared.choice.Choice.{Choice}
use Rattle.iol_proc.specs.declared.choice.Choice.TheVariants as choice
use Rattle.iol_system.specs.Machine.{SystemState}
use Rattle.flash_cgi.specs.declared.worker.Worker.{Worker}
use Rattle.flash_laws.specs.World.Consistency.{Actor}
use Rattle.flash_lite.specs.Harmless.{AreHarmless, HarmlessIsRight}
use Rattle.flash_lite.specs.HostedSite.{Hosts}
use Rattle.flash_lite.specs.declared.site.Site.{Site}
use Rattle.test_flash_laws.specs.Witness.{IsRightRun}
use Rattle.test_flash_laws.proofs.tests.host_request.Goals as goal

if-ok : {A B : Type 0} {P Q : A → Type 0} (r : Result A B) → IfOk r P → ((x : A) → P x → Q x) → IfOk r Q
if-ok (Ok x) p f = f x p
if-ok (Err e) p f = tt

-- a run of harmless choices that hosts a site is right
is-right : (law : HarmlessIsRight) (s : Site) (stored : List (List ℕ)) (xs : List Choice) (rs : List Reply) (turns : ℕ)
    (idle : Bool)
    (after : WorldState SystemState (Actor Worker)) → Hosts s (slots_of stored) xs rs turns idle (copied after)
    → AreHarmless s xs
    → IsRightRun s stored rs turns idle after
is-right law s stored xs rs turns idle after hosts harmless = record {
  choices = xs;
  hosts = hosts;
  harmless = harmless;
  right = (law s (slots_of stored) xs rs turns idle (copied after) hosts).own harmless;
}

pub returns : goal.returns
returns c = if-ok c.host.result c.host.ensures.hosts (λ h given.
    is-right c.harmless_is_right.ensures.right c.args.site.now c.args.slots
    (choice.Outside (event.ConnNew c.new-pool.result)
    ∷ choice.Outside (event.Arrive c.new-conn.result c.from_vec-bytes.result) ∷ []) h.replies.items 65536 h.idle
    h.world
    (subst (λ (stored : List (List ℕ)). Hosts c.args.site.now (slots_of stored)
    (choice.Outside (event.ConnNew c.new-pool.result)
    ∷ choice.Outside (event.Arrive c.new-conn.result c.from_vec-bytes.result) ∷ []) h.replies.items 65536 h.idle
    (copied h.world))
    c.new-store.ensures.slots (given c.new-store.ensures.honest)) (tt, (tt, tt)))
