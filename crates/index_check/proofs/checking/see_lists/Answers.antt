use Rattle.std.proofs.Common.{rules, arith, ◌≡◌, ◌∙◌, ◌*◌, ◌/◌, ◌<◌, ◌⊎◌, ⊎_elim, inl, inr, ℕ, List, Bool, true, length, get_or, IfNone, IfSome, ap, sym, subst}
use Rattle.std.specs.Bool.{Decides}
use Rattle.rec_bytes.specs.Format as format
use Rattle.record_lists.specs.Heads.{AmongHeads, BrokeIs, HeadKeeps, IsOnce}
use Rattle.record_lists.specs.Seen.{is_among, is_seen}
use Rattle.record_lists.specs.declared.heads.Broke.TheVariants.{Head, Item}
use Rattle.record_lists.proofs.Causes.{cause_passed}
use Rattle.record_lists.proofs.LineLaws.{in_from_among}
use Rattle.store_rules.specs.Breaking.{damage}
use Rattle.store_rules.specs.Chains.{In}
use Rattle.store_rules.specs.Views.{Records}
use Rattle.index_check.specs.Buckets.{AreItsEntries}
use Rattle.index_check.specs.Definitions.{definition_of}
use Rattle.index_check.specs.HeadRecords.{IsHeadItem}
use Rattle.index_check.proofs.IndexLaws.{breaks_by}
use Rattle.index_check.proofs.ListedLaws.{Always, all_told, buckets_kept, entries_once, entry_twice, head_twice, heads_kept, heads_once, no_bucket, no_heads}
use Rattle.index_check.proofs.PlaceLaws.{many_place, twelve_place}
use Rattle.rec_bytes.proofs.Causes.{never_ok, ok_cause}
use Rattle.record_lists.proofs.OnlyReads.{is_read-on}
use Rattle.prop_store.proofs.Causes.{later_on}
use Rattle.index_check.proofs.checking.see_lists.Goals as goal

-- what was seen after the records of heads
met_before : (records : Records) (ids : List ℕ) (old mid : List Bool) → ((p : ℕ) → is_seen old p ≡ is_among ids p)
    → ((p : ℕ) → Decides (is_seen mid p) ((is_seen old p ≡ true) ⊎ AmongHeads Always (IsHeadItem records ids) (12 * length ids) p))
    → (p : ℕ) → is_seen mid p ≡ true → (In p ids) ⊎ AmongHeads Always (IsHeadItem records ids) (12 * length ids) p
met_before records ids old mid first told p m = ⊎_elim (λ (o : is_seen old p ≡ true). inl (in_from_among p ids (sym (first p) ∙ o))) (λ a. inr a) ((told p).0 m)

pub returns-in-Some-Head-clause-broken : goal.returns-in-Some-Head-clause-broken
returns-in-Some-Head-clause-broken g c = λ tells.
    let records = (g.R.Reads.state c.args.space.now).records in
    let ids = c.args.ids.now in
    let are = c.requires.listed tells in
    let id = c.in-Some-Head.id in
    let b : BrokeIs Always (IsHeadItem records ids) (12 * length ids) c.args.seen.now (Head id) = search (rules, c.in_ok-id.ensures.broken tells) in
    let place = (twelve_place (length ids) id b.0).0 in
    let at : c.named_at.result ≡ definition_of 12 ids id = subst (λ (i : ℕ). i / 12 < length ids → c.named_at.result ≡ get_or ids (i / 12) 0)
    c.in-Some-Head.id-is c.named_at.ensures place in
    breaks_by records c.broken.result format.index_file (definition_of 12 ids id) (c.broken.ensures ∙ ap (λ i. damage 8 i 8) at)
    (no_heads records ids are id b.0 b.1)

pub returns-in-Some-Item-clause-broken : goal.returns-in-Some-Item-clause-broken
returns-in-Some-Item-clause-broken g c = λ tells.
    let records = (g.R.Reads.state c.args.space.now).records in
    let ids = c.args.ids.now in
    let are = c.requires.listed tells in
    let id = c.in-Some-Item.id in
    let b : BrokeIs Always (IsHeadItem records ids) (12 * length ids) c.args.seen.now (Item id) = search (rules, c.in_ok-id.ensures.broken tells) in
    breaks_by records c.broken-in-Some-Item.result format.index_file id (c.broken-in-Some-Item.ensures ∙ ap (λ i. damage 8 i 8) c.in-Some-Item.id-is)
    (head_twice records ids are c.args.seen.now c.requires.told id b)

pub returns-in-Some-Head-2-clause-broken : goal.returns-in-Some-Head-2-clause-broken
returns-in-Some-Head-2-clause-broken g c = λ tells.
    let records = (g.R.Reads.state c.args.space.now).records in
    let ids = c.args.ids.now in
    let are = c.requires.listed tells in
    let first = c.list_heads.new.seen in
    let id = c.in-Some-Head-2.id in
    let told : IfSome c.in_ok-id-2.field-0 (BrokeIs Always (AreItsEntries records ids) (180 * length ids) first)
    = subst (λ (r : Records). IfSome c.in_ok-id-2.field-0 (BrokeIs Always (AreItsEntries r ids) (180 * length ids) first)) c.in_ok-id.ensures.read.records
    (c.in_ok-id-2.ensures.broken tells) in
    let b : BrokeIs Always (AreItsEntries records ids) (180 * length ids) first (Head id) = search (rules, told) in
    let at : c.named_at-in-Some-Head-2.result ≡ definition_of 180 ids id = c.named_at-in-Some-Head-2.ensures (many_place (length ids) id b.0).0 in
    breaks_by records c.broken-in-Some-Head-2.result format.index_file (definition_of 180 ids id) (c.broken-in-Some-Head-2.ensures ∙ ap (λ i. damage 8 i 8) at)
    (no_bucket records ids are id b.0 b.1)

pub returns-in-Some-Item-2-clause-broken : goal.returns-in-Some-Item-2-clause-broken
returns-in-Some-Item-2-clause-broken g c = λ tells.
    let records = (g.R.Reads.state c.args.space.now).records in
    let ids = c.args.ids.now in
    let are = c.requires.listed tells in
    let first = c.list_heads.new.seen in
    let id = c.in-Some-Item-2.id in
    let seen : (p : ℕ) → Decides (is_seen first p) ((is_seen c.args.seen.now p ≡ true) ⊎ AmongHeads Always (IsHeadItem records ids) (12 * length ids) p) =
    search (rules, c.in_ok-id.ensures.seen tells) in
    let told : IfSome c.in_ok-id-2.field-0 (BrokeIs Always (AreItsEntries records ids) (180 * length ids) first)
    = subst (λ (r : Records). IfSome c.in_ok-id-2.field-0 (BrokeIs Always (AreItsEntries r ids) (180 * length ids) first)) c.in_ok-id.ensures.read.records
    (c.in_ok-id-2.ensures.broken tells) in
    let b : BrokeIs Always (AreItsEntries records ids) (180 * length ids) first (Item id) = search (rules, told) in
    breaks_by records c.broken-in-Some-Item-2.result format.index_file id c.broken-in-Some-Item-2.ensures
    (entry_twice records ids are first (met_before records ids c.args.seen.now first c.requires.told seen) id b)

pub returns-in-None-2-clause-right : goal.returns-in-None-2-clause-right
returns-in-None-2-clause-right g c = λ tells.
    let records = (g.R.Reads.state c.args.space.now).records in
    let ids = c.args.ids.now in
    let are = c.requires.listed tells in
    let old = c.args.seen.now in
    let first = c.list_heads.new.seen in
    let last = c.list_heads-2.new.seen in
    let seen : (p : ℕ) → Decides (is_seen first p) ((is_seen old p ≡ true) ⊎ AmongHeads Always (IsHeadItem records ids) (12 * length ids) p) =
    search (rules, c.in_ok-id.ensures.seen tells) in
    let keeps : (k : ℕ) → k < 12 * length ids → HeadKeeps Always (IsHeadItem records ids) k = search (rules, c.in_ok-id.ensures.keeps tells) in
    let once : (p : ℕ) → IsOnce Always (IsHeadItem records ids) (12 * length ids) p = search (rules, c.in_ok-id.ensures.once tells) in
    let sees : Records → ℕ → Type 0 = λ r p. Decides (is_seen last p)
    ((is_seen first p ≡ true) ⊎ AmongHeads Always (AreItsEntries r ids) (180 * length ids) p) in
    let seen_after : IfNone c.in_ok-id-2.field-0 ((p : ℕ) → Decides (is_seen last p) ((is_seen first p ≡ true) ⊎ AmongHeads Always (AreItsEntries records ids)
    (180 * length ids) p))
    = subst (λ (r : Records). IfNone c.in_ok-id-2.field-0 ((p : ℕ) → sees r p)) c.in_ok-id.ensures.read.records (c.in_ok-id-2.ensures.seen tells) in
    let last_seen : (p : ℕ) → Decides (is_seen last p) ((is_seen first p ≡ true) ⊎ AmongHeads Always (AreItsEntries records ids) (180 * length ids) p) =
    search (rules, seen_after) in
    let keeps_after : IfNone c.in_ok-id-2.field-0 ((k : ℕ) → k < 180 * length ids → HeadKeeps Always (AreItsEntries records ids) k)
    = subst (λ (r : Records). IfNone c.in_ok-id-2.field-0 ((k : ℕ) → k < 180 * length ids → HeadKeeps Always (AreItsEntries r ids) k))
    c.in_ok-id.ensures.read.records
    (c.in_ok-id-2.ensures.keeps tells) in
    let last_keeps : (k : ℕ) → k < 180 * length ids → HeadKeeps Always (AreItsEntries records ids) k = search (rules, keeps_after) in
    let once_after : IfNone c.in_ok-id-2.field-0 ((p : ℕ) → IsOnce Always (AreItsEntries records ids) (180 * length ids) p)
    = subst (λ (r : Records). IfNone c.in_ok-id-2.field-0 ((p : ℕ) → IsOnce Always (AreItsEntries r ids) (180 * length ids) p)) c.in_ok-id.ensures.read.records
    (c.in_ok-id-2.ensures.once tells) in
    let last_once : (p : ℕ) → IsOnce Always (AreItsEntries records ids) (180 * length ids) p = search (rules, once_after) in
    record {
      listed = record {
        heads = heads_kept records ids are keeps;
        buckets = buckets_kept records ids are last_keeps;
        head_once = heads_once records ids are keeps once;
        entry_once = entries_once records ids are last_keeps last_once;
      };
      told = all_told records ids are last_keeps old first last c.requires.told keeps seen last_seen;
    }

pub returns-in_err-id-clause-cause : goal.returns-in_err-id-clause-cause
returns-in_err-id-clause-cause g c =
    cause_passed _ _ _ c.from_residual.result c.in_err-id.field-0.0 (omega arith) c.in_err-id.ensures.cause c.from_residual.ensures.1

pub returns-in_err-id-2-clause-cause : goal.returns-in_err-id-2-clause-cause
returns-in_err-id-2-clause-cause g c =
    cause_passed _ _ _ c.from_residual-in_err-id-2.result c.in_err-id-2.field-0.0 c.in_ok-id.ensures.cause.later c.in_err-id-2.ensures.cause
    c.from_residual-in_err-id-2.ensures.1

pub returns-in_err-id-2-clause-read : goal.returns-in_err-id-2-clause-read
returns-in_err-id-2-clause-read g c =
    is_read-on g.R.Reads g.met.R.Reads.further_onward _ _ _ c.in_ok-id.ensures.read c.in_err-id-2.ensures.read

pub returns-in-Some-Head-2-clause-read : goal.returns-in-Some-Head-2-clause-read
returns-in-Some-Head-2-clause-read g c =
    is_read-on g.R.Reads g.met.R.Reads.further_onward _ _ _ c.in_ok-id.ensures.read c.in_ok-id-2.ensures.read

pub returns-in-Some-Item-2-clause-read : goal.returns-in-Some-Item-2-clause-read
returns-in-Some-Item-2-clause-read g c =
    is_read-on g.R.Reads g.met.R.Reads.further_onward _ _ _ c.in_ok-id.ensures.read c.in_ok-id-2.ensures.read

pub returns-in-None-2-clause-read : goal.returns-in-None-2-clause-read
returns-in-None-2-clause-read g c =
    is_read-on g.R.Reads g.met.R.Reads.further_onward _ _ _ c.in_ok-id.ensures.read c.in_ok-id-2.ensures.read

pub returns-in_err-id-clause-right : goal.returns-in_err-id-clause-right
returns-in_err-id-clause-right g c _ = never_ok c.from_residual.result _ _ c.from_residual.ensures.1

pub returns-in_err-id-clause-broken : goal.returns-in_err-id-clause-broken
returns-in_err-id-clause-broken g c _ = never_ok c.from_residual.result _ _ c.from_residual.ensures.1

pub returns-in_err-id-clause-read : goal.returns-in_err-id-clause-read
returns-in_err-id-clause-read g c =
    c.in_err-id.ensures.read

pub returns-in_err-id-2-clause-right : goal.returns-in_err-id-2-clause-right
returns-in_err-id-2-clause-right g c _ = never_ok c.from_residual-in_err-id-2.result _ _ c.from_residual-in_err-id-2.ensures.1

pub returns-in_err-id-2-clause-broken : goal.returns-in_err-id-2-clause-broken
returns-in_err-id-2-clause-broken g c _ = never_ok c.from_residual-in_err-id-2.result _ _ c.from_residual-in_err-id-2.ensures.1

pub returns-in_err-id-clause-len : goal.returns-in_err-id-clause-len
returns-in_err-id-clause-len g c = c.in_err-id.ensures.len

pub returns-in_err-id-2-clause-len : goal.returns-in_err-id-2-clause-len
returns-in_err-id-2-clause-len g c = c.in_err-id-2.ensures.len ∙ c.in_ok-id.ensures.len

pub returns-in-Some-Head-clause-cause : goal.returns-in-Some-Head-clause-cause
returns-in-Some-Head-clause-cause g c = ok_cause _ _ _ _ c.in_ok-id.ensures.cause.later

pub returns-in-Some-Head-clause-read : goal.returns-in-Some-Head-clause-read
returns-in-Some-Head-clause-read g c = c.in_ok-id.ensures.read

pub returns-in-Some-Head-clause-len : goal.returns-in-Some-Head-clause-len
returns-in-Some-Head-clause-len g c = c.in_ok-id.ensures.len

pub returns-in-Some-Head-clause-right : goal.returns-in-Some-Head-clause-right
returns-in-Some-Head-clause-right g c tells = tt

pub returns-in-Some-Item-clause-cause : goal.returns-in-Some-Item-clause-cause
returns-in-Some-Item-clause-cause g c = ok_cause _ _ _ _ c.in_ok-id.ensures.cause.later

pub returns-in-Some-Item-clause-read : goal.returns-in-Some-Item-clause-read
returns-in-Some-Item-clause-read g c = c.in_ok-id.ensures.read

pub returns-in-Some-Item-clause-len : goal.returns-in-Some-Item-clause-len
returns-in-Some-Item-clause-len g c = c.in_ok-id.ensures.len

pub returns-in-Some-Item-clause-right : goal.returns-in-Some-Item-clause-right
returns-in-Some-Item-clause-right g c tells = tt

pub returns-in-Some-Head-2-clause-cause : goal.returns-in-Some-Head-2-clause-cause
returns-in-Some-Head-2-clause-cause g c = ok_cause _ _ _ _ (later_on c.in_ok-id.ensures.cause.later c.in_ok-id-2.ensures.cause.later)

pub returns-in-Some-Head-2-clause-len : goal.returns-in-Some-Head-2-clause-len
returns-in-Some-Head-2-clause-len g c = c.in_ok-id-2.ensures.len ∙ c.in_ok-id.ensures.len

pub returns-in-Some-Item-2-clause-cause : goal.returns-in-Some-Item-2-clause-cause
returns-in-Some-Item-2-clause-cause g c = ok_cause _ _ _ _ (later_on c.in_ok-id.ensures.cause.later c.in_ok-id-2.ensures.cause.later)

pub returns-in-Some-Item-2-clause-len : goal.returns-in-Some-Item-2-clause-len
returns-in-Some-Item-2-clause-len g c = c.in_ok-id-2.ensures.len ∙ c.in_ok-id.ensures.len

pub returns-in-None-2-clause-cause : goal.returns-in-None-2-clause-cause
returns-in-None-2-clause-cause g c = ok_cause _ _ _ _ (later_on c.in_ok-id.ensures.cause.later c.in_ok-id-2.ensures.cause.later)

pub returns-in-None-2-clause-len : goal.returns-in-None-2-clause-len
returns-in-None-2-clause-len g c = c.in_ok-id-2.ensures.len ∙ c.in_ok-id.ensures.len

pub returns-in-Some-Head-2-clause-right : goal.returns-in-Some-Head-2-clause-right
returns-in-Some-Head-2-clause-right g c tells = tt

pub returns-in-Some-Item-2-clause-right : goal.returns-in-Some-Item-2-clause-right
returns-in-Some-Item-2-clause-right g c tells = tt

pub returns-in-None-2-clause-broken : goal.returns-in-None-2-clause-broken
returns-in-None-2-clause-broken g c tells = tt
