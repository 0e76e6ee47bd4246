-- Calls of other domains and external events leave the site, and the objects of the server, unchanged.
use Rattle.std.proofs.Common.{◌≡◌, ◌≢◌, ℕ, ◌==◌, ◌≤◌, List, length, ap, ◌∙◌, refl, sym, subst, arith, Option, Some}
use Rattle.std.proofs.Common.{None, true, false, Bool, if◌then◌else◌}
use Rattle.std.specs.List.{list_any}
use Rattle.std.proofs.lemmas.Bool.Decides.{nat_tests}
use Rattle.std.proofs.lemmas.Grind.{common_steps}
use Rattle.iol_core.specs.State.{State, File as FileEntry, may_read, pool, is_pool, file, content}
use Rattle.iol_core.specs.Calls.Files.{file_called}
use Rattle.iol_core.specs.Run.{StepsTo}
use Rattle.iol_core.specs.Values.{gives_up}
use Rattle.iol_laws.specs.Frame.{EachStepLeavesTheRest, Leaves, changes_files, admits_to, ends}
use Rattle.iol_core.specs.declared.events.Call.{Call}
use Rattle.iol_core.specs.declared.events.Call.TheVariants as call
use Rattle.iol_core.specs.declared.events.Event.{Event}
use Rattle.iol_core.specs.declared.events.Event.TheVariants as event
use Rattle.iol_core.specs.declared.events.Reply.{Reply}
use Rattle.flash_laws.specs.Answers.{SiteContents, Found, Failed}
use Rattle.flash_laws.specs.Conn.{most_read}
use Rattle.flash_laws.specs.Site.{server, net_pool, found_in, outcome_in, IsFixed, KeepsSite}
use Rattle.flash_laws.proofs.Conn.ReadableBytes.{file-same, content-same}

-- a call of another domain gives up no aggregate of the server, and touches none of its descriptors
pub other-gives : (d : ℕ) (k : Call) (a : ℕ) → d ≢ server → gives_up (event.Call d k) server a ≡ false
other-gives d call.Exit a differ = grind (arith, nat_tests, differ)
other-gives d (call.AggSplit b at) a differ = grind (arith, nat_tests, differ)
other-gives d (call.AggJoin b c) a differ = grind (arith, nat_tests, differ)
other-gives d (call.AggDrop b) a differ = grind (arith, nat_tests, differ)
other-gives d (call.AggGive b to) a differ = grind (arith, nat_tests, differ)
other-gives d k a differ = refl

pub other-ends : (d : ℕ) (k : Call) → d ≢ server → ends (event.Call d k) server ≡ false
other-ends d call.Exit differ = grind (arith, nat_tests, differ)
other-ends d k differ = refl

-- The fixed conditions are preserved.

pub none-listed : (m : State) (d p : ℕ) → is_pool m p ≡ false → may_read m d p ≡ true → ⊥
unfolding pool
none-listed m d p none may = grind (arith, nat_tests, common_steps, none, may)

-- if a pool has a reader, and no domain is admitted to it, its readers are unchanged
may-same : (m n : State) (e : Event) (p d by : ℕ) → Leaves m e n → admits_to e p ≡ false
    → may_read m by p ≡ true → may_read n d p ≡ may_read m d p
may-same m n e p d by leaves un some = is (is_pool m p) refl
  where
    is : (b : Bool) → is_pool m p ≡ b → may_read n d p ≡ may_read m d p
    is true there = ap (λ (l : List ℕ). list_any (λ x. x == d) l) (leaves.listed p there un)
    is false there = absurd (none-listed m by p there some)

pub called-same : (m n : State) (name : List ℕ) → n.files ≡ m.files → file_called n name ≡ file_called m name
called-same m n name same = grind (arith, same)

-- a step that changes no file and admits no domain leaves the site unchanged
pub site-stays : (site_contents : SiteContents) (m n : State) (e : Event) → Leaves m e n → IsFixed site_contents m
    → changes_files m e ≡ false → ((p : ℕ) → admits_to e p ≡ false) → KeepsSite m n
site-stays site_contents m n e leaves fixed undisturbed un = record {
  files = (leaves.files undisturbed).0;
  slots = (leaves.files undisturbed).1;
  net = λ d. may-same m n e net_pool d server leaves (un net_pool) fixed.net_read;
  readers = λ name f d is. let some = fixed.read_by name f is in
      may-same m n e (file m f).pool d some.0 leaves (un (file m f).pool) some.1;
}

pub fixed-stays : (site_contents : SiteContents) (steps : EachStepLeavesTheRest) (m n : State) (e : Event) (r : Reply)
    → StepsTo m e r n → KeepsSite m n → ends e server ≡ false → IsFixed site_contents m → IsFixed site_contents n
fixed-stays site_contents steps m n e r step same lives fixed = record {
  lives = leaves.lives server fixed.lives lives;
  outcomes = λ name. outcome name (file_called m name) refl;
  lengths = λ name f is. subst (λ (l : List ℕ). length l ≤ most_read) (sym (content-same m n f same.slots))
      (fixed.lengths name f (sym (called-same m n name same.files) ∙ is));
  read_by = λ name f is. let was = fixed.read_by name f (sym (called-same m n name same.files) ∙ is) in (
    was.0,
    subst (λ (x : FileEntry). may_read n was.0 x.pool ≡ true) (sym (file-same m n f same.files))
        (leaves.readers was.0 (file m f).pool was.1),
  );
  net_read = leaves.readers server net_pool fixed.net_read;
  net_alone = λ d differ. same.net d ∙ fixed.net_alone d differ;
}
  where
    leaves : Leaves m e n
    leaves = steps.leaves m n e r step

    outcome : (name : List ℕ) (o : Option ℕ) → file_called m name ≡ o → outcome_in n name ≡ site_contents name
    outcome name o is = ap (λ (x : Option ℕ). found_in n x) (called-same m n name same.files ∙ is)
        ∙ (found o is ∙ (ap (λ (x : Option ℕ). found_in m x) (sym is) ∙ fixed.outcomes name))
      where
        found : (o : Option ℕ) → file_called m name ≡ o → found_in n o ≡ found_in m o
        found None is = refl
        found (Some f) is =
            let may : may_read n server (file n f).pool ≡ may_read m server (file m f).pool =
            ap (λ (x : FileEntry). may_read n server x.pool) (file-same m n f same.files)
            ∙ same.readers name f server is in
            ap (λ b. if b then Found (content n f) else Failed 403) may
            ∙ ap (λ (l : List ℕ). if may_read m server (file m f).pool then Found l else Failed 403)
            (content-same m n f same.slots)
