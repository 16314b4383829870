-- What calls of a disk leave, one after the other.
use Rattle.std.proofs.Common.{ℕ, ◌≤◌, ◌∙◌, refl}
use Rattle.disk_model.specs.Contents.{Files, Same}
use Rattle.disk_model.specs.Disk.{Elapses, NoMore}
use Rattle.disk_model.specs.Spans.{AtEachMoment, OnlyReads}
use Rattle.disk_model.specs.declared.disk.Disk.{Ghosts}
use Rattle.disk_model.proofs.Times.{leaves_at_once, leaves_then, leaves_on, leaves_weaker}

-- since a state there is no moment but its own: a law of each disk
abbrev pub OnlyNow : {D : Type 0} → Ghosts D → Type 0
OnlyNow g = (disk : _) (image : Files) → g.tells_images → g.left_since disk (g.moment disk) image → g.may_leave disk image

-- the moment of a state is one of those since an earlier one: a law of each disk
abbrev pub CountsNow : {D : Type 0} → Ghosts D → Type 0
CountsNow g = (disk : _) (t : ℕ) (image : Files) → g.tells_images → t ≤ g.moment disk → g.may_leave disk image → g.left_since disk t image

-- time goes on from one state to the other, over one call
abbrev pub Passes : {D : Type 0} → Ghosts D → D → D → Type 0
Passes g old new = Elapses (g.moment old) (g.moment new) (g.left_since old) (g.left_since new) (g.may_leave new)

-- no call
pub at_each_moment_none : {D : Type 0} (g : Ghosts D) (disk : D) (P : Files → Type 0) → OnlyNow g → g.tells_images
    → ((image : Files) → g.may_leave disk image → P image) → AtEachMoment g disk disk P
at_each_moment_none g disk P only told has = leaves_at_once (g.moment disk) (g.left_since disk) P (λ image left. has image (only disk image told left))

-- each image of the later state is one of those since the first
pub at_each_moment_now : {D : Type 0} (g : Ghosts D) (old new : D) (P : Files → Type 0) → CountsNow g → g.tells_images → AtEachMoment g old new P
    → (image : Files) → g.may_leave new image → P image
at_each_moment_now g old new P counts told leaves image left = leaves.each image (counts new (g.moment old) image told leaves.later left)

-- one call more
pub at_each_moment_then : {D : Type 0} (g : Ghosts D) (first old new : D) (P : Files → Type 0) → AtEachMoment g first old P → Passes g old new
    → ((image : Files) → g.may_leave new image → P image) → AtEachMoment g first new P
at_each_moment_then g first old new P before time has =
    leaves_then (g.moment first) (g.moment old) (g.moment new) (g.left_since first) (g.left_since old) (g.left_since new) (g.may_leave new) P before time has

-- several calls more
pub at_each_moment_on : {D : Type 0} (g : Ghosts D) (first old new : D) (P Q : Files → Type 0) → AtEachMoment g first old P → AtEachMoment g old new Q
    → ((image : Files) → Q image → P image) → AtEachMoment g first new P
at_each_moment_on g first old new P Q before more has =
    leaves_on (g.moment first) (g.moment old) (g.moment new) (g.left_since first) (g.left_since old) (g.left_since new) P Q before more has

-- a weaker fact of each content
pub at_each_moment_weaker : {D : Type 0} (g : Ghosts D) (old new : D) (P Q : Files → Type 0) → AtEachMoment g old new P → ((image : Files) → P image → Q image)
    → AtEachMoment g old new Q
at_each_moment_weaker g old new P Q leaves has = leaves_weaker (g.moment old) (g.moment new) (g.left_since old) (g.left_since new) P Q leaves has

-- one call at first
pub at_each_moment_call : {D : Type 0} (g : Ghosts D) (old new : D) (P : Files → Type 0) → OnlyNow g → g.tells_images
    → ((image : Files) → g.may_leave old image → P image) → Passes g old new
    → ((image : Files) → g.may_leave new image → P image) → AtEachMoment g old new P
at_each_moment_call g old new P only told had time has = at_each_moment_then g old old new P (at_each_moment_none g old P only told had) time has

-- calls that add no image
pub at_each_moment_no_more : {D : Type 0} (g : Ghosts D) (first old new : D) (P : Files → Type 0) → CountsNow g → g.tells_images → AtEachMoment g first old P
    → Passes g old new → NoMore (g.may_leave old) (g.may_leave new)
    → AtEachMoment g first new P
at_each_moment_no_more g first old new P counts told before time fewer =
    at_each_moment_then g first old new P before time (λ image left. at_each_moment_now g first old P counts told before image (fewer image left))

-- calls that only read, after others
pub at_each_moment_read : {D : Type 0} (g : Ghosts D) (first old new : D) (P : Files → Type 0) → CountsNow g → g.tells_images → AtEachMoment g first old P
    → OnlyReads g old new → AtEachMoment g first new P
at_each_moment_read g first old new P counts told before reads =
    at_each_moment_on g first old new P (g.may_leave old) before (reads.time told) (at_each_moment_now g first old P counts told before)

-- no call reads only
pub only_reads_none : {D : Type 0} (g : Ghosts D) (disk : D) → OnlyNow g → OnlyReads g disk disk
only_reads_none g disk only = record {
  keeps = λ file place. refl;
  crash = λ told image left. left;
  time = λ told. at_each_moment_none g disk (g.may_leave disk) only told (λ image left. left);
}

-- one call that leaves what is read and adds no image
pub only_reads_call : {D : Type 0} (g : Ghosts D) (old new : D) → OnlyNow g → Same (g.reads old) (g.reads new)
    → (g.tells_images → NoMore (g.may_leave old) (g.may_leave new)) → (g.tells_images → Passes g old new) → OnlyReads g old new
only_reads_call g old new only keeps crash time = record {
  keeps = keeps;
  crash = crash;
  time = λ told. at_each_moment_call g old new (g.may_leave old) only told (λ image left. left) (time told) (crash told);
}

-- further calls that only read
pub only_reads_on : {D : Type 0} (g : Ghosts D) (first old new : D) → OnlyReads g first old → OnlyReads g old new → OnlyReads g first new
only_reads_on g first old new before more = record {
  keeps = λ file place. more.keeps file place ∙ before.keeps file place;
  crash = λ told image left. before.crash told image (more.crash told image left);
  time = λ told. at_each_moment_on g first old new (g.may_leave first) (g.may_leave old) (before.time told) (more.time told) (before.crash told);
}
