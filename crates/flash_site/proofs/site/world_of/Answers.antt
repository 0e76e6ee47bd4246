use Rattle.std.proofs.Common.{List, ℕ, subst}
use Rattle.flash_lite.specs.Prelude.{AreFilesOf}
use Rattle.flash_site.proofs.site.world_of.Goals as goal

pub returns : goal.returns
returns g c = record {
  site = c.in_ok-site.site;
  files = subst (λ (names : List (List ℕ)). AreFilesOf names c.in_ok-site.site.files.items) c.index.ensures.names
      c.in_ok-site.ensures.files;
  replies = c.in_ok-hosted.hosted.replies.items;
  idle = c.in_ok-hosted.hosted.idle;
  over = c.in_ok-hosted.ensures.shared;
  honest = c.in_ok-hosted.ensures.hosts;
}
