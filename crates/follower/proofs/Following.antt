-- A follower keeps to what was sent, over any run.
use Rattle.std.proofs.Common.{◌≡◌, ◌∙◌, ap, sym, subst, inl, inr, ⊎_elim, ◌⊎◌, ℕ, ◌+◌, ◌≤◌, true, List, [], ◌∷◌, Option}
use Rattle.std.proofs.Common.{None, Some, Result, Ok, Err, length, refl, arith}
use mathlib.Core.Bool.{false≢true}
use Rattle.std.specs.List.{slice_get}
use Rattle.std.proofs.lemmas.Option.{slice_get_within}
use Rattle.recovery.specs.Finding.{IsMade}
use Rattle.fault_count.specs.Cause.{Rose}
use Rattle.disk_model.specs.Contents.{Files}
use Rattle.disk_model.specs.Spans.{AtEachMoment}
use Rattle.disk_model.specs.declared.disk.Disk.{Ghosts}
use Rattle.disk_model.proofs.Spans.{CountsNow, OnlyNow, at_each_moment_now, at_each_moment_weaker}
use Rattle.rec_bytes.specs.declared.key.Key.{Key}
use Rattle.rec_bytes.specs.declared.record.Rec.{Rec}
use Rattle.rec_bytes.specs.declared.shape.Shape.{Shape}
use Rattle.record_file.specs.Redone.{Redoes}
use Rattle.txn_core.specs.Config.{shape_of}
use Rattle.txn_core.specs.Opening.{IsOldOrNew, IsOldOrRaised, IsWant, OnlyDiffers}
use Rattle.txn_core.specs.declared.again_fault.AgainFault.{AgainFault}
use Rattle.txn_core.specs.declared.again_fault.AgainFault.TheVariants as again
use Rattle.txn_core.specs.declared.config.Config.{Config}
use Rattle.txn_core.specs.declared.open_fault.OpenFault.{OpenFault}
use Rattle.txn_core.specs.declared.open_fault.OpenFault.TheVariants as opening
use Rattle.follower.specs.Follower.{Answers, IsNextFor, IsOpened, IsUnchanged, IsUnopened, LeavesByOpening, Reopens, View}
use Rattle.follower.specs.Running.{Event, Opens, Fails, Comes, Reopens_as, Stops, Stops_inside, FollowsAlways}
use Rattle.follower.specs.Running.{IsBlamedAgain, IsBlamedRightly, IsSound, May, Run, World, after, answered, came}
use Rattle.follower.specs.Running.{found, found_again, start_of, AcceptsAt, ReopensAt}
use Rattle.stored_graph.specs.Stands.{IsZeros}
use Rattle.follower.specs.Sent.{FollowsSent, HoldsSent, IsSent, FitsTold, Told, nothing_told}
use Rattle.follower.specs.Taken.{follower_records, number_in, taken}
use Rattle.follower.specs.declared.accept.Accept.{Accept}
use Rattle.follower.specs.declared.accept.Accept.TheVariants.{Applied, Bad, Disk, Gap, Memory, Old}
use Rattle.follower.proofs.Standing.{follower_made, follower_not_old, left_redoes, old_or_new_taken, opens_as, suits_itself, zeros_blank}
use Rattle.follower.proofs.Taking.{number_in-follower_records, taken-follower_records}

-- The content is a store that has taken over as many as its number says, and this is one that the follower may have.
record FollowsMade (shape : Shape) (sent : List (List ℕ)) (told : Told) (content : Files) : Type 0 where
  number : ℕ
  was_sent : number ≤ length sent
  redoes : Redoes content (follower_records shape sent number)
  fits : FitsTold told number

follows_made : (shape : Shape) (sent : List (List ℕ)) (told : Told) (content : Files) → FollowsMade shape sent told content
    → FollowsSent shape sent told content
follows_made shape sent told content is = record { number = is.number; was_sent = is.was_sent; holds = inl is.redoes; fits = is.fits }

module _ {D : Type 0} (g : Ghosts D) where
  -- A follower that takes shipments: its records are those of its number, and so does each image say.
  record IsServing (shape : Shape) (sent : List (List ℕ)) (told : Told) (follower : View D) : Type 0 where
    records : follower.records ≡ follower_records shape sent follower.have
    images : (image : Files) → g.may_leave follower.disk image → Redoes image follower.records
    was_sent : follower.have ≤ length sent
    base : told.base ≡ follower.have
    applied : told.applied ≤ follower.have
    came_before : follower.have ≤ told.greatest

  -- A follower over the disk.
  record IsOver (shape : Shape) (sent : List (List ℕ)) (told : Told) (disk : D) (follower : View D) : Type 0 where
    same : follower.disk ≡ disk
    shape_is : follower.shape ≡ shape
    images : (image : Files) → g.may_leave follower.disk image → FollowsMade shape sent told image
    serving : follower.live ≡ true → IsServing shape sent told follower

  abbrev IsStanding : Shape → List (List ℕ) → Told → D → Option (View D) → Type 0
  IsStanding shape sent told disk None = (image : Files) → g.may_leave disk image → FollowsSent shape sent told image
  IsStanding shape sent told disk (Some follower) = IsOver shape sent told disk follower

  -- what holds after each event
  record Keeps (shape : Shape) (sent : List (List ℕ)) (w : World D) : Type 0 where
    standing : IsStanding shape sent w.told w.disk w.follower
    meanwhile : (image : Files) → g.left_since w.disk w.since image → FollowsSent shape sent w.during image

  -- each image of a follower that takes shipments
  serving_images : (shape : Shape) (sent : List (List ℕ)) (told : Told) (follower : View D) → IsServing shape sent told follower
      → (image : Files) → g.may_leave follower.disk image → FollowsMade shape sent told image
  serving_images shape sent told follower is image left =
      let base = is.base in
      record {
        number = follower.have;
        was_sent = is.was_sent;
        redoes = subst (Redoes image) is.records (is.images image left);
        fits = record { holds_applied = is.applied; one_more = omega arith; came = is.came_before };
      }

  standing_now : (shape : Shape) (sent : List (List ℕ)) (told : Told) (disk : D) (follower : Option (View D)) → IsStanding shape sent told disk follower
      → (image : Files) → g.may_leave disk image → FollowsSent shape sent told image
  standing_now shape sent told disk None is image left = is image left
  standing_now shape sent told disk (Some follower) is image left =
      follows_made shape sent told image (is.images image (subst (λ (d : D). g.may_leave d image) (sym is.same) left))

  -- ---- an opening

  -- what is left at each moment of it
  opening_leaves : (config : Config) (sent : List (List ℕ)) (told : Told) (old new : D) → IsSent (shape_of config) sent → g.tells_reads → g.tells_images
      → ((image : Files) → g.may_leave old image → FollowsSent (shape_of config) sent told image) → FollowsSent (shape_of config) sent told (g.reads old)
      → LeavesByOpening g config old new
      → AtEachMoment g old new (FollowsSent (shape_of config) sent told)
  opening_leaves config sent told old new is reads images before read leaves = by read.holds
    where
      weaker : (P : Files → Type 0) → AtEachMoment g old new (λ left. g.may_leave old left ⊎ P left)
          → ((left : Files) → P left → FollowsSent (shape_of config) sent told left) → AtEachMoment g old new (FollowsSent (shape_of config) sent told)
      weaker P at has = at_each_moment_weaker g old new (λ left. g.may_leave old left ⊎ P left) (FollowsSent (shape_of config) sent told) at
          (λ left. ⊎_elim (before left) (has left))

      by : HoldsSent (shape_of config) sent read.number (g.reads old) → AtEachMoment g old new (FollowsSent (shape_of config) sent told)
      by (inl redoes) =
          weaker (IsOldOrRaised (shape_of config) (follower_records (shape_of config) sent read.number))
          (leaves.made reads images (follower_records (shape_of config) sent read.number) (shape_of config) redoes (follower_made (shape_of config)
          sent read.number is read.was_sent))
          (λ left has. record {
            number = read.number;
            was_sent = read.was_sent;
            holds = inl (left_redoes (shape_of config) sent read.number is read.was_sent
                left has);
            fits = read.fits;
          })
      by (inr blank) =
          weaker (λ left. IsOldOrNew (g.reads old) (shape_of config) left)
          (leaves.unmade reads images blank.1.unmade)
          (λ left new. record {
            number = 0;
            was_sent = omega arith;
            holds = old_or_new_taken (shape_of config) sent (g.reads old) left blank.1 new;
            fits = subst
                (FitsTold told) blank.0 read.fits;
          })

  -- what it finds is served
  serves_found : (shape : Shape) (sent : List (List ℕ)) (told : Told) (j : ℕ) (follower : View D) → IsSent shape sent → g.tells_reads → g.tells_images
      → j ≤ length sent → FitsTold told j
      → follower.records ≡ follower_records shape sent j → follower.have ≡ number_in follower.records
      → ((image : Files) → g.may_leave follower.disk image → Redoes image follower.records)
      → IsServing shape sent (found follower.have told) follower
  serves_found shape sent told j follower is reads images below fits records have stored =
      let few = is.few in
      let number : follower.have ≡ j = have ∙ ap number_in records ∙ number_in-follower_records shape sent j (omega arith) in
      let applied = fits.holds_applied in
      let greatest = fits.came in
      record {
        records = records ∙ ap (follower_records shape sent) (sym number);
        images = stored;
        was_sent = omega arith;
        base = refl;
        applied = omega arith;
        came_before = omega arith;
      }

  over_found : (shape : Shape) (sent : List (List ℕ)) (told : Told) (follower : View D) → follower.shape ≡ shape → IsServing shape sent told follower
      → IsOver shape sent told follower.disk follower
  over_found shape sent told follower shape_is serving = record {
    same = refl;
    shape_is = shape_is;
    images = serving_images shape sent told follower serving;
    serving = λ live. serving;
  }

  -- ---- a shipment

  unchanged_serving : (shape : Shape) (sent : List (List ℕ)) (told : Told) (place : ℕ) (old now : View D) → g.tells_reads → g.tells_images
      → IsServing shape sent told old → IsUnchanged g old now → now.shape ≡ shape
      → IsOver shape sent (came place told) now.disk now
  unchanged_serving shape sent told place old now reads images is same shape_is =
      let have = same.have in
      let was_sent = is.was_sent in
      let base = is.base in
      let applied = is.applied in
      let greatest = is.came_before in
      over_found shape sent (came place told) now shape_is (record {
        records = same.records reads ∙ is.records ∙ ap (follower_records shape sent) (sym have);
        images = λ image left. subst (Redoes image) (sym (same.records reads)) (is.images image (same.disk.crash images image left));
        was_sent = omega arith;
        base = base ∙ sym have;
        applied = omega arith;
        came_before = omega arith;
      })

  -- the next shipment is the one at the place of the number
  next_place : (shape : Shape) (sent : List (List ℕ)) (place : ℕ) (bytes : List ℕ) (old : View D) → IsSent shape sent → slice_get sent place ≡ Some bytes
      → IsNextFor old bytes → place ≡ old.have
  next_place shape sent place bytes old is got next =
      let one = (is.each place bytes got).1 in
      let other = next.number in
      omega arith

  taken_next : (shape : Shape) (sent : List (List ℕ)) (told : Told) (place : ℕ) (bytes : List ℕ) (old : View D) → IsSent shape sent
      → slice_get sent place ≡ Some bytes → IsServing shape sent told old → IsNextFor old bytes
      → taken old.records bytes ≡ follower_records shape sent (old.have + 1)
  taken_next shape sent told place bytes old is got serving next =
      let same = next_place shape sent place bytes old is got next in
      ap (λ (records : Key → Rec). taken records bytes) serving.records
      ∙ taken-follower_records shape sent old.have bytes (subst (λ (p : ℕ). slice_get sent p ≡ Some bytes) same got) next.number

  -- with it a content has one more
  follows_next : (shape : Shape) (sent : List (List ℕ)) (told : Told) (place : ℕ) (bytes : List ℕ) (old : View D) → IsSent shape sent
      → slice_get sent place ≡ Some bytes → IsServing shape sent told old → IsNextFor old bytes
      → (image : Files) → Redoes image (taken old.records bytes) → FollowsMade shape sent (came place told) image
  follows_next shape sent told place bytes old is got serving next image redoes =
      let same = next_place shape sent place bytes old is got next in
      let below = slice_get_within sent place bytes got in
      let base = serving.base in
      let applied = serving.applied in
      record {
        number = old.have + 1;
        was_sent = omega arith;
        redoes = subst (Redoes image) (taken_next shape sent told place bytes old is got serving next) redoes;
        fits = record { holds_applied = omega arith; one_more = omega arith; came = omega arith };
      }

  follows_same : (shape : Shape) (sent : List (List ℕ)) (told : Told) (place : ℕ) (old : View D) → IsServing shape sent told old
      → (image : Files) → Redoes image old.records → FollowsMade shape sent (came place told) image
  follows_same shape sent told place old serving image redoes =
      let base = serving.base in
      let applied = serving.applied in
      let greatest = serving.came_before in
      record {
        number = old.have;
        was_sent = serving.was_sent;
        redoes = subst (Redoes image) serving.records redoes;
        fits = record { holds_applied = applied; one_more = omega arith; came = omega arith };
      }

  accepted : (shape : Shape) (sent : List (List ℕ)) (told : Told) (place : ℕ) (bytes : List ℕ) (old now : View D) (answer : Accept) → IsSent shape sent
      → g.tells_reads → g.tells_images → slice_get sent place ≡ Some bytes
      → IsServing shape sent told old → now.shape ≡ shape → Answers g bytes old now answer
      → IsOver shape sent (answered answer (came place told)) now.disk now
  accepted shape sent told place bytes old now (Bad at) is reads images got serving shape_is of =
      unchanged_serving shape sent told place old now reads images serving of.1 shape_is
  accepted shape sent told place bytes old now (Old have) is reads images got serving shape_is of =
      unchanged_serving shape sent told place old now reads images serving of.3 shape_is
  accepted shape sent told place bytes old now (Gap have) is reads images got serving shape_is of =
      unchanged_serving shape sent told place old now reads images serving of.3 shape_is
  accepted shape sent told place bytes old now Memory is reads images got serving shape_is of =
      unchanged_serving shape sent told place old now reads images serving of.1 shape_is
  accepted shape sent told place bytes old now (Applied number) is reads images got serving shape_is of =
      let same = next_place shape sent place bytes old is got of.0 in
      let below = slice_get_within sent place bytes got in
      let number_is = of.1 in
      let next = of.0.number in
      let have = of.2.have in
      let more : now.have ≡ old.have + 1 = have ∙ next in
      over_found shape sent (answered (Applied number) (came place told)) now shape_is (record {
        records = of.2.records reads ∙ taken_next shape sent told place bytes old is got serving of.0 ∙ ap (follower_records shape sent) (sym more);
        images = of.2.stored.images reads images;
        was_sent = omega arith;
        base = omega arith;
        applied = omega arith;
        came_before = omega arith;
      })
  accepted shape sent told place bytes old now Disk is reads images got serving shape_is of = record {
    same = refl;
    shape_is = shape_is;
    images = λ image left. ⊎_elim
        (follows_same shape sent told place old serving image)
        (follows_next shape sent told place bytes old is got serving of.0 image)
        (of.1.stored.images reads images image left);
    serving = λ live. absurd (false≢true (sym of.1.live ∙ live));
  }

  -- ---- every event

  read_follows : (shape : Shape) (sent : List (List ℕ)) (w : World D) → ((disk : D) → g.tells_reads → g.tells_images → g.may_leave disk (g.reads disk))
      → g.tells_reads → g.tells_images → Keeps shape sent w → FollowsSent shape sent w.told (g.reads w.disk)
  read_follows shape sent w is_image reads images keeps = standing_now shape sent w.told w.disk w.follower keeps.standing (g.reads w.disk)
      (is_image w.disk reads images)

  -- what a follower is opened as
  opened : (config : Config) (sent : List (List ℕ)) (told : Told) (disk : D) (now : View D) → IsSent (shape_of config) sent → g.tells_reads → g.tells_images
      → FollowsSent (shape_of config) sent told (g.reads disk) → IsOpened g config disk now
      → IsOver (shape_of config) sent (found now.have told) now.disk now
  opened config sent told disk now is reads images read of =
      let finds = opens_as config sent (g.reads disk) read.number now.shape now.records is read.was_sent read.holds (of.opens reads) in
      over_found (shape_of config) sent (found now.have told) now finds.1
      (serves_found (shape_of config) sent told read.number now is reads images read.was_sent read.fits finds.0 (of.have reads) (of.stored.images reads images))

  -- what it is opened as again
  opened_again : (shape : Shape) (sent : List (List ℕ)) (told : Told) (old now : View D) (result : Result (Unit {0}) AgainFault) → IsSent shape sent
      → CountsNow g → g.tells_reads → g.tells_images → old.shape ≡ shape
      → ((image : Files) → g.may_leave old.disk image → FollowsMade shape sent told image) → FollowsMade shape sent told (g.reads old.disk)
      → Reopens g old now result
      → IsOver shape sent (found_again result now.have told) now.disk now
  opened_again shape sent told old now (Ok done) is counts reads images shape_is before read of =
      let records = of.answers.records reads (follower_records shape sent read.number) read.redoes in
      over_found shape sent (found now.have told) now (of.shape ∙ shape_is)
      (serves_found shape sent told read.number now is reads images read.was_sent read.fits records (of.answers.have reads)
      (of.answers.stored.images reads images))
  opened_again shape sent told old now (Err why) is counts reads images shape_is before read of = record {
    same = refl;
    shape_is = of.shape ∙ shape_is;
    images = λ image left. ⊎_elim (before image)
        (λ redoes. record { number = read.number; was_sent = read.was_sent; redoes = redoes; fits = read.fits })
        (at_each_moment_now g old.disk now.disk _ counts images (of.crash reads images (follower_records shape sent read.number) read.redoes) image left);
    serving = λ live. absurd (false≢true (sym of.answers.live ∙ live));
  }

  -- what the laws of a disk say
  pub record Laws : Type 0 where
    pub read_is_image : (disk : D) → g.tells_reads → g.tells_images → g.may_leave disk (g.reads disk)
    pub counts : CountsNow g
    pub only : OnlyNow g

  comes : (shape : Shape) (sent : List (List ℕ)) (told : Told) (disk : D) (follower : Option (View D)) (place : ℕ) (answer : Accept) (now : View D)
      → IsSent shape sent → g.tells_reads → g.tells_images
      → IsStanding shape sent told disk follower → AcceptsAt g sent place answer now follower
      → IsOver shape sent (answered answer (came place told)) now.disk now
      × ((image : Files) → g.left_since now.disk (g.moment disk) image → FollowsSent shape sent (came place told) image)
  comes shape sent told disk None place answer now is reads images standing of = absurd of
  comes shape sent told disk (Some old) place answer now is reads images standing of =
      let serving = standing.serving of.2 in (
        accepted shape sent told place of.0 old now answer is reads images of.1 serving (of.3.shape ∙ standing.shape_is) of.3.answers,
        λ image left. follows_made shape sent (came place told) image (⊎_elim
            (follows_same shape sent told place old serving image)
            (λ next. follows_next shape sent told place of.0 old is of.1 serving next.0 image next.1)
            ((of.3.crash reads images).each image (subst (λ (d : D). g.left_since now.disk (g.moment d) image) (sym standing.same) left))),
      )

  reopens : (shape : Shape) (sent : List (List ℕ)) (told : Told) (disk : D) (follower : Option (View D)) (result : Result (Unit {0}) AgainFault) (now : View D)
      → IsSent shape sent → Laws → g.tells_reads → g.tells_images
      → IsStanding shape sent told disk follower → ReopensAt g result now follower
      → IsOver shape sent (found_again result now.have told) now.disk now
      × ((image : Files) → g.left_since now.disk (g.moment disk) image → FollowsSent shape sent told image)
  reopens shape sent told disk None result now is laws reads images standing of = absurd of
  reopens shape sent told disk (Some old) result now is laws reads images standing of =
      let read = standing.images (g.reads old.disk) (laws.read_is_image old.disk reads images) in (
        opened_again shape sent told old now result is laws.counts reads images standing.shape_is standing.images read of,
        λ image left. follows_made shape sent told image (⊎_elim
            (standing.images image)
            (λ redoes. record { number = read.number; was_sent = read.was_sent; redoes = redoes; fits = read.fits })
            ((of.crash reads images (follower_records shape sent read.number) read.redoes).each image (subst (λ (d : D). g.left_since now.disk (g.moment d)
            image) (sym standing.same) left))),
      )

  keeps_after : (config : Config) (sent : List (List ℕ)) (event : Event D) (w : World D) → IsSent (shape_of config) sent → Laws → g.tells_reads → g.tells_images
      → Keeps (shape_of config) sent w → May g config sent event w
      → Keeps (shape_of config) sent (after g event w)
  keeps_after config sent (Opens now) w is laws reads images keeps of =
      let read = read_follows (shape_of config) sent w laws.read_is_image reads images keeps in
      record {
        standing = opened config sent w.told w.disk now is reads images read of;
        meanwhile = (opening_leaves config sent w.told w.disk now.disk is reads images (standing_now (shape_of config) sent w.told w.disk w.follower
            keeps.standing) read of.leaves).each;
      }
  keeps_after config sent (Fails why now) w is laws reads images keeps of =
      let read = read_follows (shape_of config) sent w laws.read_is_image reads images keeps in
      let leaves = opening_leaves config sent w.told w.disk now is reads images (standing_now (shape_of config) sent w.told w.disk w.follower keeps.standing)
      read of.leaves in
      record {
        standing = at_each_moment_now g w.disk now (FollowsSent (shape_of config) sent w.told) laws.counts images leaves;
        meanwhile = leaves.each;
      }
  keeps_after config sent (Comes place answer now) w is laws reads images keeps of =
      let both = comes (shape_of config) sent w.told w.disk w.follower place answer now is reads images keeps.standing of in
      record { standing = both.0; meanwhile = both.1 }
  keeps_after config sent (Reopens_as result now) w is laws reads images keeps of =
      let both = reopens (shape_of config) sent w.told w.disk w.follower result now is laws reads images keeps.standing of in
      record { standing = both.0; meanwhile = both.1 }
  keeps_after config sent (Stops now) w is laws reads images keeps of =
      let has = λ (image : Files) (left : g.may_leave now image). standing_now (shape_of config) sent w.told w.disk w.follower keeps.standing image
      (of image left) in
      record { standing = has; meanwhile = λ image left. has image (laws.only now image images left) }
  keeps_after config sent (Stops_inside now) w is laws reads images keeps of =
      let has = λ (image : Files) (left : g.may_leave now image). keeps.meanwhile image (of image left) in
      record { standing = has; meanwhile = λ image left. has image (laws.only now image images left) }

  keeps_run : (config : Config) (sent : List (List ℕ)) (events : List (Event D)) (w end : World D) → IsSent (shape_of config) sent → Laws → g.tells_reads
      → g.tells_images → Keeps (shape_of config) sent w → Run g config sent events w end
      → Keeps (shape_of config) sent end
  keeps_run config sent [] w end is laws reads images keeps run = subst (Keeps (shape_of config) sent) (sym run) keeps
  keeps_run config sent (event ∷ later) w end is laws reads images keeps run =
      keeps_run config sent later (after g event w) end is laws reads images (keeps_after config sent event w is laws reads images keeps run.0) run.1

  keeps_start : (shape : Shape) (sent : List (List ℕ)) (disk : D) → Laws → g.tells_images → ((image : Files) → g.may_leave disk image → IsZeros image)
      → Keeps shape sent (start_of g disk)
  keeps_start shape sent disk laws images zeros =
      let has = λ (image : Files) (left : g.may_leave disk image). let follows : FollowsSent shape sent nothing_told image = record {
        number = 0;
        was_sent = omega arith;
        holds = inr (refl, zeros_blank image (zeros image left));
        fits = record { holds_applied = omega arith; one_more = omega arith; came = omega arith };
      } in follows in
      record { standing = has; meanwhile = λ image left. has image (laws.only disk image images left) }

  -- each image of each run
  pub follows_always : (config : Config) (sent : List (List ℕ)) (disk : D) (events : List (Event D)) (end : World D) → Laws → g.tells_reads → g.tells_images
      → IsSent (shape_of config) sent
      → ((image : Files) → g.may_leave disk image → IsZeros image) → Run g config sent events (start_of g disk) end → FollowsAlways g (shape_of config) sent end
  follows_always config sent disk events end laws reads images is zeros run =
      let keeps = keeps_run config sent events (start_of g disk) end is laws reads images (keeps_start (shape_of config) sent disk laws images zeros) run in
      record { now = standing_now (shape_of config) sent end.told end.disk end.follower keeps.standing; meanwhile = keeps.meanwhile }

  -- ---- why an opening fails

  only_want : (config : Config) (old now : D) (why : OpenFault) → (why ≡ opening.Disk → Rose (g.faults old) (g.faults now)) → IsWant why
      → IsBlamedRightly g old now why
  only_want config old now opening.Memory cause want = tt
  only_want config old now opening.Disk cause want = cause refl
  only_want config old now opening.NotAStore cause want = absurd want
  only_want config old now (opening.Damaged damage) cause want = absurd want
  only_want config old now (opening.ConfigDiffers stored asked) cause want = absurd want

  only_differs : (config : Config) (old now : D) (why : OpenFault) → (why ≡ opening.Disk → Rose (g.faults old) (g.faults now))
      → OnlyDiffers (shape_of config) config why → IsBlamedRightly g old now why
  only_differs config old now opening.Memory cause only = tt
  only_differs config old now opening.Disk cause only = cause refl
  only_differs config old now opening.NotAStore cause only = absurd only
  only_differs config old now (opening.Damaged damage) cause only = absurd only
  only_differs config old now (opening.ConfigDiffers stored asked) cause only = absurd (only.2 (suits_itself config))

  fails_rightly : (config : Config) (sent : List (List ℕ)) (told : Told) (old now : D) (why : OpenFault) → IsSent (shape_of config) sent → g.tells_reads
      → FollowsSent (shape_of config) sent told (g.reads old) → IsUnopened g config old now why
      → IsBlamedRightly g old now why
  fails_rightly config sent told old now why is reads read of = ⊎_elim
      (λ redoes. only_differs config old now why of.cause (of.sound reads (follower_records (shape_of config) sent read.number) (shape_of config) redoes
      (follower_made (shape_of config) sent read.number is read.was_sent)))
      (λ blank. only_want config old now why of.cause (of.unmade reads blank.1.unmade))
      read.holds

  again_rightly : (shape : Shape) (sent : List (List ℕ)) (told : Told) (disk : D) (follower : Option (View D)) (result : Result (Unit {0}) AgainFault)
      (now : View D) → IsSent shape sent → Laws → g.tells_reads → g.tells_images
      → IsStanding shape sent told disk follower → ReopensAt g result now follower → IsBlamedAgain g disk now.disk result
  again_rightly shape sent told disk None result now is laws reads images standing of = absurd of
  again_rightly shape sent told disk (Some old) (Ok done) now is laws reads images standing of = tt
  again_rightly shape sent told disk (Some old) (Err again.Disk) now is laws reads images standing of =
      subst (λ (d : D). Rose (g.faults d) (g.faults now.disk)) standing.same (of.answers.cause refl)
  again_rightly shape sent told disk (Some old) (Err (again.Damaged damage)) now is laws reads images standing of =
      let read = standing.images (g.reads old.disk) (laws.read_is_image old.disk reads images) in
      let same : again.Damaged damage ≡ again.Disk = of.answers.sound reads (follower_records shape sent read.number) read.redoes
      (subst (IsMade (follower_records shape sent read.number)) (sym standing.shape_is) (follower_made shape sent read.number is read.was_sent))
      (follower_not_old shape sent read.number is read.was_sent) in
      cc

  sound_event : (config : Config) (sent : List (List ℕ)) (event : Event D) (w : World D) → IsSent (shape_of config) sent → Laws → g.tells_reads → g.tells_images
      → Keeps (shape_of config) sent w → May g config sent event w → IsSound g event w
  sound_event config sent (Opens now) w is laws reads images keeps of = tt
  sound_event config sent (Fails why now) w is laws reads images keeps of =
      fails_rightly config sent w.told w.disk now why is reads (read_follows (shape_of config) sent w laws.read_is_image reads images keeps) of
  sound_event config sent (Comes place answer now) w is laws reads images keeps of = tt
  sound_event config sent (Reopens_as result now) w is laws reads images keeps of =
      again_rightly (shape_of config) sent w.told w.disk w.follower result now is laws reads images keeps.standing of
  sound_event config sent (Stops now) w is laws reads images keeps of = tt
  sound_event config sent (Stops_inside now) w is laws reads images keeps of = tt

  -- each event after each run
  pub sound_always : (config : Config) (sent : List (List ℕ)) (disk : D) (events : List (Event D)) (end : World D) (event : Event D) → Laws → g.tells_reads
      → g.tells_images → IsSent (shape_of config) sent
      → ((image : Files) → g.may_leave disk image → IsZeros image) → Run g config sent events (start_of g disk) end → May g config sent event end
      → IsSound g event end
  sound_always config sent disk events end event laws reads images is zeros run may =
      sound_event config sent event end is laws reads images (keeps_run config sent events (start_of g disk) end is laws reads images
      (keeps_start (shape_of config) sent disk laws images zeros) run) may
