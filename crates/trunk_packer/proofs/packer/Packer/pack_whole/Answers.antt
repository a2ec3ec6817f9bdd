use Rattle.trunk_packer.proofs.WholeLaws.{packs_all, all_media}
use Rattle.trunk_packer.proofs.packer.Packer.pack_whole.Goals as goal

pub returns-clause-frame : goal.returns-clause-frame
returns-clause-frame c = (packs_all _ _ _ _ _ c.in_ok-out.ensures.packed c.requires.fits).frame

pub returns-clause-media : goal.returns-clause-media
returns-clause-media c = all_media _ _ _ c.in_ok-out.ensures.counted (packs_all _ _ _ _ _ c.in_ok-out.ensures.packed
    c.requires.fits).empty

pub returns-clause-empty : goal.returns-clause-empty
returns-clause-empty c = (packs_all _ _ _ _ _ c.in_ok-out.ensures.packed c.requires.fits).empty
