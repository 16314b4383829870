use Rattle.txn_core.specs.Config.{shape_of}
use Rattle.follower.proofs.Following.{Laws, follows_always, sound_always}
use Rattle.follower.proofs.Numbered.{taken_stands}
use Rattle.follower.proofs.Taking.{number_in-follower_records}
use Rattle.follower.proofs.running.keeps_to_what_was_sent.Given.{Over}
use Rattle.follower.proofs.running.keeps_to_what_was_sent.Goals as goal

-- the laws of the disk
laws : (g : Over) → Laws g.D.Disk
laws g = record { read_is_image = g.met.D.Disk.read_is_image; counts = g.met.D.Disk.counts_now; only = g.met.D.Disk.only_now }

pub returns-clause-follows : goal.returns-clause-follows
returns-clause-follows g c reads images config sent disk events end is zeros run =
    follows_always g.D.Disk config sent disk events end (laws g) reads images is zeros run

pub returns-clause-sound : goal.returns-clause-sound
returns-clause-sound g c reads images config sent disk events end event is zeros run may =
    sound_always g.D.Disk config sent disk events end event (laws g) reads images is zeros run may

pub returns-clause-number : goal.returns-clause-number
returns-clause-number g c config sent j small = number_in-follower_records (shape_of config) sent j small

pub returns-clause-stands : goal.returns-clause-stands
returns-clause-stands g c shape sent j content is below has = taken_stands shape sent j content is below has
