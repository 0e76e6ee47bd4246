use Rattle.flash_laws.proofs.Site.Others.{site-stays}
use Rattle.flash_laws.proofs.laws.site_law.Goals as goal

pub returns : goal.returns
returns c =
    λ site_contents m n e r fixed step undisturbed un. site-stays site_contents m n e
    (c.each_step_leaves_the_rest.ensures.leaves m n e r step) fixed undisturbed un
