-- The fixed conditions remain over each step that leaves the site unchanged.
use Rattle.std.proofs.Common.{inl, inr, ◌≡◌, ◌≢◌, ◌<◌, ℕ, ◌≤◌, ◌⊎◌, List, length, ap, ◌∙◌, refl, sym, subst, Option}
use Rattle.std.proofs.Common.{Some, true, false, Bool}
use Rattle.std.specs.Prelude.{unwrap_or}
use Rattle.iol_core.specs.Calls.Aggregates.{default_pool}
use Rattle.iol_core.specs.Calls.Files.{file_called}
use Rattle.iol_core.specs.NumberedLists.{is_numbered}
use Rattle.iol_core.specs.Run.{StepsTo}
use Rattle.iol_core.specs.State.{State, File as FileEntry, is_pool, may_read, file}
use Rattle.iol_core.specs.declared.events.Call.{Call}
use Rattle.iol_core.specs.declared.events.Call.TheVariants as call
use Rattle.iol_core.specs.declared.events.Event.{Event}
use Rattle.iol_core.specs.declared.events.Event.TheVariants as event
use Rattle.iol_core.specs.declared.events.Reply.{Reply}
use Rattle.iol_core.specs.declared.limits.TheConstants.{MAX_FILE_BYTES}
use Rattle.iol_laws.specs.Frame.{Leaves, ends, sets_default}
use Rattle.iol_laws.specs.Order.{IsOrderly}
use Rattle.flash_cgi.specs.Outcomes.{AreFiles}
use Rattle.flash_cgi.specs.OutputPools.{HoldFiles}
use Rattle.flash_laws.specs.Workers.WorkerSet.{WorkerSet, IsFixedFor}
use Rattle.flash_laws.specs.Run.{worker_domain}
use Rattle.flash_laws.specs.SiteContents.{SiteContents}
use Rattle.flash_laws.specs.Site.{server, KeepsSite}
use Rattle.flash_laws.specs.Site as site
use Rattle.flash_laws.proofs.Conn.ReadableBytes.{file-same, content-same}
use Rattle.flash_laws.proofs.Lists.{not-equal}
use Rattle.flash_laws.proofs.Site.Others.{fixed-stays, none-listed, called-same}
use Rattle.flash_laws.proofs.World.AllLaws.{AllLaws}
use Rattle.flash_laws.proofs.World.JobQueue.Frame.{files-left}

-- A step whose event leaves the site unchanged, does not end the server's domain, and does not set its default pool.
pub record SitePreserving (m n : State) : Type 0 where
  pub e : Event
  pub r : Reply
  pub step : StepsTo m e r n
  pub site : KeepsSite m n
  pub lives : ends e server ≡ false
  pub default : sets_default e server ≡ false

abbrev pub Goes : State → State → Type 0
Goes m n = (n ≡ m) ⊎ SitePreserving m n

-- a call of another domain does not set the server's default pool
pub other-default : (d : ℕ) (k : Call) → d ≢ server → sets_default (event.Call d k) server ≡ false
other-default d call.Exit differ = not-equal d server differ
other-default d (call.SetPool p) differ = not-equal d server differ
other-default d k differ = refl

-- a pool with a reader exists
there-pool : (m : State) (d p : ℕ) → may_read m d p ≡ true → is_pool m p ≡ true
there-pool m d p may = by (is_pool m p) refl
  where
    by : (b : Bool) → is_pool m p ≡ b → is_pool m p ≡ true
    by true is = is
    by false is = absurd (none-listed m d p is may)

module _ (site_contents : SiteContents) (worker_set : WorkerSet) (laws : AllLaws worker_set) where
  module _ (m n : State) (site_preserving : SitePreserving m n) (fixed : IsFixedFor site_contents worker_set m) where
    leaves : Leaves m site_preserving.e n
    leaves = laws.the.steps.leaves m n site_preserving.e site_preserving.r site_preserving.step

    still : site.IsFixed site_contents.finds n
    still = fixed-stays site_contents.finds laws.the.steps m n site_preserving.e site_preserving.r site_preserving.step
        site_preserving.site site_preserving.lives fixed.site

    called : (name : List ℕ) (f : ℕ) → file_called n name ≡ Some f → file_called m name ≡ Some f
    called name f is = sym (called-same m n name site_preserving.site.files) ∙ is

    files-stay : AreFiles n
    files-stay = record {
      lengths =
          λ f there. subst (λ (l : List ℕ). length l ≤ MAX_FILE_BYTES)
          (sym (content-same m n f site_preserving.site.slots))
          (fixed.files.lengths f (ap (λ fs. is_numbered fs f) (sym site_preserving.site.files) ∙ there));
      pooled = λ name f is. let some = still.read_by name f is in there-pool n some.0 (file n f).pool some.1;
    }

    holds-stay : (k : ℕ) → k < worker_set.count → HoldFiles worker_set.pools n (worker_domain k)
    holds-stay k lt = record {
      files = λ name f is may.
          let same : (file n f).pool ≡ (file m f).pool =
          ap (λ (x : FileEntry). x.pool) (file-same m n f site_preserving.site.files) in
          ap worker_set.pools same ∙ (fixed.holds k lt).files name f (called name f is)
          (sym (site_preserving.site.readers name f (worker_domain k) (called name f is))
          ∙ (ap (λ p. may_read n (worker_domain k) p) (sym same) ∙ may));
      pauses = (fixed.holds k lt).pauses;
    }

    default-stays : default_pool n server ≡ default_pool m server
    default-stays =
        ap (λ (o : Option ℕ). unwrap_or o 0) (leaves.defaults server fixed.site.lives site_preserving.default)

    fixed-site_preserving : IsFixedFor site_contents worker_set n
    fixed-site_preserving = record {
      site = still;
      access = laws.the.orders.access m n site_preserving.e site_preserving.r fixed.access site_preserving.step;
      placed = laws.the.orders.places m n site_preserving.e site_preserving.r fixed.placed site_preserving.step;
      low = laws.numbers.step m n site_preserving.e site_preserving.r fixed.low site_preserving.step;
      files = files-stay;
      holds = holds-stay;
      shows = λ k lt name. (files-left m n (worker_domain k) site_preserving.site).outcomes name
          ∙ fixed.shows k lt name;
      wide = λ q is. leaves.readers server q (fixed.wide q is);
      read_jobs = λ k lt q is. leaves.readers (worker_domain k) q (fixed.read_jobs k lt q is);
      default = ap worker_set.jobs default-stays ∙ fixed.default;
      scripts = fixed.scripts;
    }

  pub fixed-on : (m n : State) → Goes m n → IsFixedFor site_contents worker_set m
      → IsFixedFor site_contents worker_set n
  fixed-on m n (inl same) fixed = subst (λ (s : State). IsFixedFor site_contents worker_set s) (sym same) fixed
  fixed-on m n (inr site_preserving) fixed = fixed-site_preserving m n site_preserving fixed

  pub order-on : (m n : State) → Goes m n → IsOrderly m → IsOrderly n
  order-on m n (inl same) order = subst (λ (s : State). IsOrderly s) (sym same) order
  order-on m n (inr site_preserving) order =
      laws.the.orders.step m n site_preserving.e site_preserving.r order site_preserving.step
