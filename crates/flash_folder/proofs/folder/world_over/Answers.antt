use Rattle.flash_folder.proofs.folder.world_over.Goals as goal

pub returns : goal.returns
returns g c = record {
  names = c.in_ok-site.ensures.names;
  site = c.in_ok-site.site;
  files = c.in_ok-site.ensures.files;
  replies = c.in_ok-hosted.hosted.replies.items;
  idle = c.in_ok-hosted.hosted.idle;
  over = c.in_ok-hosted.ensures.shared;
}
