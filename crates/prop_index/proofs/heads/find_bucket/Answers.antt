use Rattle.std.proofs.Common.{◌≡◌, ◌/◌, ◌+◌, ◌<◌, ℕ, length, ap, sym, ◌∙◌, subst, arith, rules}
use Rattle.rec_bytes.specs.Format as format
use Rattle.rec_bytes.specs.Space.{SameButReads}
use Rattle.store_rules.specs.Indexes.{index_rec}
use Rattle.store_rules.specs.Views.{Records, kind_at}
use Rattle.prop_store.proofs.ReadCounts.{reads_more, reads_same, reads_then}
use Rattle.store_rules.specs.IndexBreaking.{LeadsToDefinition}
use Rattle.prop_index.specs.Blaming.{BlamesBroken}
use Rattle.prop_store.proofs.Exits.{same_has}
use Rattle.prop_index.proofs.IndexBlames.{blames_before}
use Rattle.prop_index.specs.Blaming.{NamesIndexes}
use Rattle.prop_index.specs.Finding.{IsDefined, IsFound}
use Rattle.prop_index.specs.Heads.{IsBucketOf}
use Rattle.prop_index.specs.Naming.{BlamesIndex}
use Rattle.prop_index.proofs.IndexNamed.{head_before, head_index, mark_index}
use Rattle.prop_index.specs.declared.finding.Definition.{Definition}
use Rattle.prop_index.proofs.Reread.{definitions_of, same_records}
use Rattle.prop_store.proofs.Causes.{cause_passed}
use Rattle.rec_bytes.proofs.Causes.{never_ok, ok_cause}
use Rattle.prop_index.proofs.heads.find_bucket.Goals as goal

pub returns-in_default-clause-found : goal.returns-in_default-clause-found
returns-in_default-clause-found g c tells wanted ix =
    let s = g.R.Reads.state c.args.space.now in
    subst (IsFound s.records ix.definitions c.args.label c.args.key) c.in_default.is
    (c.in_ok-id.ensures.found tells ix.definitions (definitions_of s.records wanted ix))

pub returns-clause-found : goal.returns-clause-found
returns-clause-found g c tells wanted ix =
    let s = g.R.Reads.state c.args.space.now in
    let now = g.R.Reads.state c.find_definition.new.space in
    let records = same_records s now (reads_same 17 s now c.in_ok-id.ensures.at_most) in
    let definition : Definition = record { id = c.in-Some.id; rec = c.find_definition.new.rec } in
    let pair = subst (IsDefined s.records c.args.label c.args.key c.find_definition.new.rec) c.in-Some.is (c.in_ok-id.ensures.defined tells) in
    let rec_is : definition.rec ≡ index_rec now.records definition.id = pair.rec_is ∙ ap (λ (r : Records). index_rec r definition.id) (sym records) in
    record {
      definition = definition.id;
      listed = subst (IsFound s.records ix.definitions c.args.label c.args.key) c.in-Some.is
          (c.in_ok-id.ensures.found tells ix.definitions (definitions_of s.records wanted ix));
      pair = pair.pair;
      is = subst (λ (p : Records × ℕ). IsBucketOf p.0 definition.id p.1 c.in_ok-bucket.bucket) (λ i. (records i, c.bucket_of.ensures.is i))
          (c.in_ok-bucket.ensures.is tells rec_is);
    }

pub returns-in_err-id-clause-wrong : goal.returns-in_err-id-clause-wrong
returns-in_err-id-clause-wrong g c tells =
    let s = g.R.Reads.state c.args.space.now in
    same_has (BlamesIndex s c.args.label c.args.key) c.from_residual.result c.in_err-id.field-0.0 c.from_residual.ensures.1
    (mark_index s c.args.label c.args.key c.in_err-id.field-0.0 (c.in_err-id.ensures.listed tells))

pub returns-in_err-bucket-clause-wrong : goal.returns-in_err-bucket-clause-wrong
returns-in_err-bucket-clause-wrong g c tells =
    let s = g.R.Reads.state c.args.space.now in
    let now = g.R.Reads.state c.find_definition.new.space in
    let same : SameButReads s now = reads_same 17 s now c.in_ok-id.ensures.at_most in
    let records = same_records s now same in
    let definition : Definition = record { id = c.in-Some.id; rec = c.find_definition.new.rec } in
    let pair = subst (IsDefined s.records c.args.label c.args.key c.find_definition.new.rec) c.in-Some.is (c.in_ok-id.ensures.defined tells) in
    let fault = c.in_err-bucket.field-0.0 in
    let low = c.bucket_of.ensures.low in
    same_has (BlamesIndex s c.args.label c.args.key) c.from_residual-in_err-bucket.result fault c.from_residual-in_err-bucket.ensures.1
    (head_index s c.args.label c.args.key definition.id (c.bucket_of.result / 15) definition.rec pair (omega (arith, low)) fault
    (head_before s now definition.id (c.bucket_of.result / 15) fault same
    (c.in_err-bucket.ensures.wrong tells (pair.rec_is ∙ ap (λ (r : Records). index_rec r definition.id) (sym records)))))

pub returns-in_err-bucket-clause-at_most : goal.returns-in_err-bucket-clause-at_most
returns-in_err-bucket-clause-at_most g c = reads_then 17 1 18 _ _ _ (omega arith) c.in_ok-id.ensures.at_most c.in_err-bucket.ensures.at_most

pub returns-in_err-id-clause-cost : goal.returns-in_err-id-clause-cost
returns-in_err-id-clause-cost g c tells wanted ix =
    let s = g.R.Reads.state c.args.space.now in
    reads_more (1 + length ix.definitions) (2 + length ix.definitions) _ _ (omega arith)
    (c.in_err-id.ensures.cost tells ix.definitions (definitions_of s.records wanted ix))

pub returns-in_default-clause-cost : goal.returns-in_default-clause-cost
returns-in_default-clause-cost g c tells wanted ix =
    let s = g.R.Reads.state c.args.space.now in
    reads_more (1 + length ix.definitions) (2 + length ix.definitions) _ _ (omega arith)
    (c.in_ok-id.ensures.cost tells ix.definitions (definitions_of s.records wanted ix))

pub returns-in_err-bucket-clause-cost : goal.returns-in_err-bucket-clause-cost
returns-in_err-bucket-clause-cost g c tells wanted ix =
    let s = g.R.Reads.state c.args.space.now in
    reads_then (1 + length ix.definitions) 1 (2 + length ix.definitions) _ _ _ (omega arith)
    (c.in_ok-id.ensures.cost tells ix.definitions (definitions_of s.records wanted ix)) c.in_err-bucket.ensures.at_most

pub returns-in_err-id-clause-cost_of_none : goal.returns-in_err-id-clause-cost_of_none
returns-in_err-id-clause-cost_of_none g c tells wanted ix others =
    c.in_err-id.ensures.cost tells ix.definitions (definitions_of (g.R.Reads.state c.args.space.now).records wanted ix)

pub returns-in_default-clause-cost_of_none : goal.returns-in_default-clause-cost_of_none
returns-in_default-clause-cost_of_none g c tells wanted ix others =
    c.in_ok-id.ensures.cost tells ix.definitions (definitions_of (g.R.Reads.state c.args.space.now).records wanted ix)

pub returns-in_err-bucket-clause-cost_of_none : goal.returns-in_err-bucket-clause-cost_of_none
returns-in_err-bucket-clause-cost_of_none g c tells wanted ix others =
    let s = g.R.Reads.state c.args.space.now in
    let pair = subst (IsDefined s.records c.args.label c.args.key c.find_definition.new.rec) c.in-Some.is (c.in_ok-id.ensures.defined tells) in
    let listed = subst (IsFound s.records ix.definitions c.args.label c.args.key) c.in-Some.is
    (c.in_ok-id.ensures.found tells ix.definitions (definitions_of s.records wanted ix)) in
    absurd (others c.in-Some.id listed pair.pair)

pub returns-clause-cost_of_none : goal.returns-clause-cost_of_none
returns-clause-cost_of_none g c tells wanted ix others =
    let s = g.R.Reads.state c.args.space.now in
    let pair = subst (IsDefined s.records c.args.label c.args.key c.find_definition.new.rec) c.in-Some.is (c.in_ok-id.ensures.defined tells) in
    let listed = subst (IsFound s.records ix.definitions c.args.label c.args.key) c.in-Some.is
    (c.in_ok-id.ensures.found tells ix.definitions (definitions_of s.records wanted ix)) in
    absurd (others c.in-Some.id listed pair.pair)

pub returns-clause-cost : goal.returns-clause-cost
returns-clause-cost g c tells wanted ix =
    let s = g.R.Reads.state c.args.space.now in
    reads_then (1 + length ix.definitions) 1 (2 + length ix.definitions) _ _ _ (omega arith)
    (c.in_ok-id.ensures.cost tells ix.definitions (definitions_of s.records wanted ix)) c.in_ok-bucket.ensures.at_most

pub returns-clause-at_most : goal.returns-clause-at_most
returns-clause-at_most g c = reads_then 17 1 18 _ _ _ (omega arith) c.in_ok-id.ensures.at_most c.in_ok-bucket.ensures.at_most

pub returns-in_default-clause-met : goal.returns-in_default-clause-met
returns-in_default-clause-met g c tells = tt

pub returns-clause-met : goal.returns-clause-met
returns-clause-met g c tells =
    let s = g.R.Reads.state c.args.space.now in
    let now = g.R.Reads.state c.find_definition.new.space in
    let records = same_records s now (reads_same 17 s now c.in_ok-id.ensures.at_most) in
    let definition : Definition = record { id = c.in-Some.id; rec = c.find_definition.new.rec } in
    let pair = subst (IsDefined s.records c.args.label c.args.key c.find_definition.new.rec) c.in-Some.is (c.in_ok-id.ensures.defined tells) in
    let rec_is : definition.rec ≡ index_rec now.records definition.id = pair.rec_is ∙ ap (λ (r : Records). index_rec r definition.id) (sym records) in
    let is = subst (λ (p : Records × ℕ). IsBucketOf p.0 definition.id p.1 c.in_ok-bucket.bucket) (λ i. (records i, c.bucket_of.ensures.is i))
    (c.in_ok-bucket.ensures.is tells rec_is) in
    let low = c.bucket_of.ensures.low in
    record {
      definition = definition.id;
      pair = pair.pair;
      has = record {
        leads = pair.leads;
        defined = pair.used;
        low = subst (λ n. n < 180) c.bucket_of.ensures.is low;
        head = ap (kind_at s.records format.index_file) (sym is.id_is) ∙ is.head.heads;
      };
      is = is;
    }

pub returns-in_err-id-clause-damaged : goal.returns-in_err-id-clause-damaged
returns-in_err-id-clause-damaged g c tells =
    let s = g.R.Reads.state c.args.space.now in
    same_has (BlamesBroken s.records s.shape) c.from_residual.result c.in_err-id.field-0.0 c.from_residual.ensures.1 (c.in_err-id.ensures.damaged tells)

pub returns-in_err-bucket-clause-damaged : goal.returns-in_err-bucket-clause-damaged
returns-in_err-bucket-clause-damaged g c tells =
    let s = g.R.Reads.state c.args.space.now in
    let now = g.R.Reads.state c.find_definition.new.space in
    let same : SameButReads s now = reads_same 17 s now c.in_ok-id.ensures.at_most in
    let records = same_records s now same in
    let definition : Definition = record { id = c.in-Some.id; rec = c.find_definition.new.rec } in
    let pair = subst (IsDefined s.records c.args.label c.args.key c.find_definition.new.rec) c.in-Some.is (c.in_ok-id.ensures.defined tells) in
    same_has (BlamesBroken s.records s.shape) c.from_residual-in_err-bucket.result c.in_err-bucket.field-0.0 c.from_residual-in_err-bucket.ensures.1
    (blames_before s now c.in_err-bucket.field-0.0 same (c.in_err-bucket.ensures.damaged tells (pair.rec_is ∙ ap (λ (r : Records). index_rec r definition.id)
    (sym records))
    (subst (λ (r : Records). LeadsToDefinition r definition.id) (sym records) pair.leads)
    (ap (λ (r : Records). kind_at r format.index_file definition.id) records ∙ pair.used)))

pub returns-in_err-id-clause-names : goal.returns-in_err-id-clause-names
returns-in_err-id-clause-names g c tells =
    same_has NamesIndexes c.from_residual.result c.in_err-id.field-0.0 c.from_residual.ensures.1 (c.in_err-id.ensures.names tells)

pub returns-in_err-bucket-clause-names : goal.returns-in_err-bucket-clause-names
returns-in_err-bucket-clause-names g c tells = same_has NamesIndexes c.from_residual-in_err-bucket.result c.in_err-bucket.field-0.0
    c.from_residual-in_err-bucket.ensures.1 (c.in_err-bucket.ensures.names tells)

pub returns-in_default-clause-lacks : goal.returns-in_default-clause-lacks
returns-in_default-clause-lacks g c tells =
    subst (IsDefined (g.R.Reads.state c.args.space.now).records c.args.label c.args.key c.find_definition.new.rec) c.in_default.is
    (c.in_ok-id.ensures.defined tells)

pub returns-in_err-bucket-clause-onward : goal.returns-in_err-bucket-clause-onward
returns-in_err-bucket-clause-onward g c =
    g.met.R.Reads.further_onward _ _ _ c.in_ok-id.ensures.onward c.in_err-bucket.ensures.onward

pub returns-clause-onward : goal.returns-clause-onward
returns-clause-onward g c =
    g.met.R.Reads.further_onward _ _ _ c.in_ok-id.ensures.onward c.in_ok-bucket.ensures.onward

pub returns-in_err-bucket-clause-cause : goal.returns-in_err-bucket-clause-cause
returns-in_err-bucket-clause-cause g c =
    cause_passed _ _ _ c.from_residual-in_err-bucket.result c.in_err-bucket.field-0.0
    c.in_ok-id.ensures.cause.later c.in_err-bucket.ensures.cause
    c.from_residual-in_err-bucket.ensures.1

pub returns-in_err-id-clause-found : goal.returns-in_err-id-clause-found
returns-in_err-id-clause-found g c _ _ _ = never_ok c.from_residual.result _ _ c.from_residual.ensures.1

pub returns-in_err-id-clause-lacks : goal.returns-in_err-id-clause-lacks
returns-in_err-id-clause-lacks g c _ = never_ok c.from_residual.result _ _ c.from_residual.ensures.1

pub returns-in_err-id-clause-met : goal.returns-in_err-id-clause-met
returns-in_err-id-clause-met g c _ = never_ok c.from_residual.result _ _ c.from_residual.ensures.1

pub returns-in_err-id-clause-key : goal.returns-in_err-id-clause-key
returns-in_err-id-clause-key g c = never_ok c.from_residual.result _ _ c.from_residual.ensures.1

pub returns-in_err-id-clause-place : goal.returns-in_err-id-clause-place
returns-in_err-id-clause-place g c = never_ok c.from_residual.result _ _ c.from_residual.ensures.1

pub returns-in_err-id-clause-onward : goal.returns-in_err-id-clause-onward
returns-in_err-id-clause-onward g c = search rules

pub returns-in_err-bucket-clause-found : goal.returns-in_err-bucket-clause-found
returns-in_err-bucket-clause-found g c _ _ _ = never_ok c.from_residual-in_err-bucket.result _ _ c.from_residual-in_err-bucket.ensures.1

pub returns-in_err-bucket-clause-lacks : goal.returns-in_err-bucket-clause-lacks
returns-in_err-bucket-clause-lacks g c _ = never_ok c.from_residual-in_err-bucket.result _ _ c.from_residual-in_err-bucket.ensures.1

pub returns-in_err-bucket-clause-met : goal.returns-in_err-bucket-clause-met
returns-in_err-bucket-clause-met g c _ = never_ok c.from_residual-in_err-bucket.result _ _ c.from_residual-in_err-bucket.ensures.1

pub returns-in_err-bucket-clause-key : goal.returns-in_err-bucket-clause-key
returns-in_err-bucket-clause-key g c = never_ok c.from_residual-in_err-bucket.result _ _ c.from_residual-in_err-bucket.ensures.1

pub returns-in_err-bucket-clause-place : goal.returns-in_err-bucket-clause-place
returns-in_err-bucket-clause-place g c = never_ok c.from_residual-in_err-bucket.result _ _ c.from_residual-in_err-bucket.ensures.1

pub returns-clause-cause : goal.returns-clause-cause
returns-clause-cause g c = ok_cause _ _ _ _ (omega arith)

pub returns-in_err-id-clause-cause : goal.returns-in_err-id-clause-cause
returns-in_err-id-clause-cause g c =
    cause_passed _ _ _ c.from_residual.result c.in_err-id.field-0.0 (omega arith) c.in_err-id.ensures.cause c.from_residual.ensures.1

pub returns-in_err-id-clause-at_most : goal.returns-in_err-id-clause-at_most
returns-in_err-id-clause-at_most g c = reads_more 17 18 _ _ (omega arith) c.in_err-id.ensures.at_most

pub returns-in_default-clause-at_most : goal.returns-in_default-clause-at_most
returns-in_default-clause-at_most g c = reads_more 17 18 _ _ (omega arith) c.in_ok-id.ensures.at_most

pub returns-in_default-clause-cause : goal.returns-in_default-clause-cause
returns-in_default-clause-cause g c = ok_cause _ _ _ _ c.in_ok-id.ensures.cause.later

pub returns-in_default-clause-onward : goal.returns-in_default-clause-onward
returns-in_default-clause-onward g c = c.in_ok-id.ensures.onward
