use Rattle.std.proofs.Common.{List, ℕ, sym, ◌∙◌, subst, inl, arith, rules}
use Rattle.std.specs.Prelude.{IfNone, Option}
use Rattle.rec_bytes.specs.Space.{SameButReads}
use Rattle.store_rules.specs.Chains.{In}
use Rattle.store_rules.specs.Indexes.{wanted_in}
use Rattle.prop_store.proofs.ReadCounts.{reads_same}
use Rattle.std.proofs.lemmas.Result.{err_from_is_err_and}
use Rattle.store_rules.specs.Hashes.{bucket_of}
use Rattle.prop_index.specs.Blaming as blaming
use Rattle.prop_index.specs.Blaming.{IsEntryAt}
use Rattle.prop_index.specs.Finding.{LeadsToNone}
use Rattle.prop_index.specs.Heads.{IfBucketMet, IsBucketSought}
use Rattle.prop_index.specs.declared.heads.Bucket.{Bucket}
use Rattle.prop_index.proofs.IndexBlames.{blames_before, entry_begins, entry_reread}
use Rattle.prop_index.proofs.GraphFound.{graph_found}
use Rattle.prop_index.proofs.Lookups.{are_entries, are_readable, caused_exit, definitions_are, early_reads, entries}
use Rattle.prop_index.proofs.Lookups.{found_is, has_range, lookup_reads, read_lookup, reads_exit, refused_exit}
use Rattle.prop_index.proofs.IndexNamed.{result_sound}
use Rattle.prop_index.proofs.Reread.{same_then}
use Rattle.rec_bytes.proofs.Causes.{never_ok, ok_cause}
use Rattle.prop_index.proofs.looking.lookup.Goals as goal

pub returns-in_err-bucket-clause-refused : goal.returns-in_err-bucket-clause-refused
returns-in_err-bucket-clause-refused g c tells store =
    let s = g.R.Reads.state c.args.space.now in
    refused_exit s.records c.args.label c.args.key c.from_residual.result c.find_bucket.result c.in_err-bucket.field-0.0 c.in_err-bucket.was
    c.from_residual.ensures.1
    (result_sound s (wanted_in s.records) store.indexes (has_range s store) c.args.label c.args.key c.find_bucket.result (c.find_bucket.ensures.wrong tells))

pub returns-in_default-clause-refused : goal.returns-in_default-clause-refused
returns-in_default-clause-refused g c tells store ds walked =
    let s = g.R.Reads.state c.args.space.now in
    let none = subst (IsBucketSought s.records store.indexes.definitions c.args.label c.args.key c.hash_of-hash.result) c.in_default.is
    (c.in_ok-bucket.ensures.found tells (wanted_in s.records) store.indexes) in
    λ d i. none d (subst (λ (xs : List ℕ). In d xs) (definitions_are s store ds walked) i)

pub returns-in_err-nodes-clause-refused : goal.returns-in_err-nodes-clause-refused
returns-in_err-nodes-clause-refused g c tells store =
    let s = g.R.Reads.state c.args.space.now in
    let now = g.R.Reads.state c.find_bucket.new.space in
    let same : SameButReads s now = reads_same 18 s now c.in_ok-bucket.ensures.at_most in
    let hashed = c.hash_of-hash.ensures in
    let found = subst (IsBucketSought s.records store.indexes.definitions c.args.label c.args.key c.hash_of-hash.result) c.in-Some.is
    (c.in_ok-bucket.ensures.found tells (wanted_in s.records) store.indexes) in
    refused_exit s.records c.args.label c.args.key c.from_residual-in_err-nodes.result c.gather.result c.in_err-nodes.field-0.0 c.in_err-nodes.was
    c.from_residual-in_err-nodes.ensures.1
    (c.gather.ensures.not_damaged tells (entries s store c.args.label c.args.key c.args.value.now c.hash_of-hash.result hashed c.in-Some.bucket found now same)
    (are_entries s store c.args.label c.args.key c.args.value.now c.hash_of-hash.result hashed c.in-Some.bucket found now same)
    (are_readable s store c.args.label c.args.key c.args.value.now c.hash_of-hash.result hashed c.in-Some.bucket found now same))

pub returns-in_err-bucket-clause-same : goal.returns-in_err-bucket-clause-same
returns-in_err-bucket-clause-same g c = reads_same 18 (g.R.Reads.state c.args.space.now) (g.R.Reads.state c.find_bucket.new.space)
    c.in_err-bucket.ensures.at_most

pub returns-in_default-clause-same : goal.returns-in_default-clause-same
returns-in_default-clause-same g c = reads_same 18 (g.R.Reads.state c.args.space.now) (g.R.Reads.state c.find_bucket.new.space) c.in_ok-bucket.ensures.at_most

pub returns-in_err-nodes-clause-same : goal.returns-in_err-nodes-clause-same
returns-in_err-nodes-clause-same g c =
    let s = g.R.Reads.state c.args.space.now in
    let now = g.R.Reads.state c.find_bucket.new.space in
    same_then s now (g.R.Reads.state c.gather.new.space) (reads_same 18 s now c.in_ok-bucket.ensures.at_most) c.in_err-nodes.ensures.same

pub returns-in_err-put_in_order-clause-same : goal.returns-in_err-put_in_order-clause-same
returns-in_err-put_in_order-clause-same g c =
    let s = g.R.Reads.state c.args.space.now in
    let now = g.R.Reads.state c.find_bucket.new.space in
    same_then s now (g.R.Reads.state c.gather.new.space) (reads_same 18 s now c.in_ok-bucket.ensures.at_most) c.in_ok-nodes.ensures.same

pub returns-clause-same : goal.returns-clause-same
returns-clause-same g c =
    let s = g.R.Reads.state c.args.space.now in
    let now = g.R.Reads.state c.find_bucket.new.space in
    same_then s now (g.R.Reads.state c.gather.new.space) (reads_same 18 s now c.in_ok-bucket.ensures.at_most) c.in_ok-nodes.ensures.same

pub returns-clause-found : goal.returns-clause-found
returns-clause-found g c tells store =
    let s = g.R.Reads.state c.args.space.now in
    let now = g.R.Reads.state c.find_bucket.new.space in
    let same : SameButReads s now = reads_same 18 s now c.in_ok-bucket.ensures.at_most in
    let hashed = c.hash_of-hash.ensures in
    let found = subst (IsBucketSought s.records store.indexes.definitions c.args.label c.args.key c.hash_of-hash.result) c.in-Some.is
    (c.in_ok-bucket.ensures.found tells (wanted_in s.records) store.indexes) in
    let xs = entries s store c.args.label c.args.key c.args.value.now c.hash_of-hash.result hashed c.in-Some.bucket found now same in
    let are = are_entries s store c.args.label c.args.key c.args.value.now c.hash_of-hash.result hashed c.in-Some.bucket found now same in
    found_is s store c.args.label c.args.key c.args.value.now c.hash_of-hash.result hashed c.in-Some.bucket found now same c.in_ok-nodes.nodes.items
    c.put_in_order.new.nodes.items
    (c.in_ok-nodes.ensures.found tells xs are) c.in_ok-put_in_order.ensures.moved c.in_ok-put_in_order.ensures.sorted

pub returns-clause-graph : goal.returns-clause-graph
returns-clause-graph g c tells store numbered =
    let s = g.R.Reads.state c.args.space.now in
    returns-clause-found g c tells store ∙ sym (graph_found s.records s.shape store.store c.args.label c.args.key c.args.value.now numbered.label_low
    numbered.key_low)

pub returns-clause-cost : goal.returns-clause-cost
returns-clause-cost g c tells store =
    let s = g.R.Reads.state c.args.space.now in
    let now = g.R.Reads.state c.find_bucket.new.space in
    let after = g.R.Reads.state c.gather.new.space in
    let same : SameButReads s now = reads_same 18 s now c.in_ok-bucket.ensures.at_most in
    let hashed = c.hash_of-hash.ensures in
    let found = subst (IsBucketSought s.records store.indexes.definitions c.args.label c.args.key c.hash_of-hash.result) c.in-Some.is
    (c.in_ok-bucket.ensures.found tells (wanted_in s.records) store.indexes) in
    let xs = entries s store c.args.label c.args.key c.args.value.now c.hash_of-hash.result hashed c.in-Some.bucket found now same in
    let are = are_entries s store c.args.label c.args.key c.args.value.now c.hash_of-hash.result hashed c.in-Some.bucket found now same in
    lookup_reads s store c.args.label c.args.key c.args.value.now c.hash_of-hash.result hashed c.in-Some.bucket found now same after
    (c.in_ok-bucket.ensures.cost tells (wanted_in s.records) store.indexes) (c.in_ok-nodes.ensures.cost tells xs are)

pub returns-in_err-bucket-clause-cost_refused : goal.returns-in_err-bucket-clause-cost_refused
returns-in_err-bucket-clause-cost_refused g c tells store =
    let s = g.R.Reads.state c.args.space.now in
    let now = g.R.Reads.state c.find_bucket.new.space in
    reads_exit c.args.label c.args.key c.args.value.now s now c.from_residual.result c.in_err-bucket.field-0.0 c.from_residual.ensures.1
    (early_reads s store c.args.label c.args.key c.args.value.now now (c.in_err-bucket.ensures.cost tells (wanted_in s.records) store.indexes)
    (c.in_err-bucket.ensures.cost_of_none tells (wanted_in s.records) store.indexes))

pub returns-in_default-clause-cost_refused : goal.returns-in_default-clause-cost_refused
returns-in_default-clause-cost_refused g c tells store =
    let s = g.R.Reads.state c.args.space.now in
    let none = subst (IsBucketSought s.records store.indexes.definitions c.args.label c.args.key c.hash_of-hash.result) c.in_default.is
    (c.in_ok-bucket.ensures.found tells (wanted_in s.records) store.indexes) in
    record {
      definitions = store.indexes.definitions;
      walk = store.indexes.walk;
      none = none;
      reads = c.in_ok-bucket.ensures.cost_of_none tells (wanted_in s.records) store.indexes none;
    }

pub returns-in_err-nodes-clause-cost_refused : goal.returns-in_err-nodes-clause-cost_refused
returns-in_err-nodes-clause-cost_refused g c tells store =
    let s = g.R.Reads.state c.args.space.now in
    let now = g.R.Reads.state c.find_bucket.new.space in
    let after = g.R.Reads.state c.gather.new.space in
    let same : SameButReads s now = reads_same 18 s now c.in_ok-bucket.ensures.at_most in
    let hashed = c.hash_of-hash.ensures in
    let found = subst (IsBucketSought s.records store.indexes.definitions c.args.label c.args.key c.hash_of-hash.result) c.in-Some.is
    (c.in_ok-bucket.ensures.found tells (wanted_in s.records) store.indexes) in
    let xs = entries s store c.args.label c.args.key c.args.value.now c.hash_of-hash.result hashed c.in-Some.bucket found now same in
    let are = are_entries s store c.args.label c.args.key c.args.value.now c.hash_of-hash.result hashed c.in-Some.bucket found now same in
    reads_exit c.args.label c.args.key c.args.value.now s after c.from_residual-in_err-nodes.result c.in_err-nodes.field-0.0
    c.from_residual-in_err-nodes.ensures.1
    (inl (lookup_reads s store c.args.label c.args.key c.args.value.now c.hash_of-hash.result hashed c.in-Some.bucket found now same after
    (c.in_ok-bucket.ensures.cost tells (wanted_in s.records) store.indexes) (c.in_err-nodes.ensures.cost tells xs are)))

pub returns-in_err-put_in_order-clause-cost_refused : goal.returns-in_err-put_in_order-clause-cost_refused
returns-in_err-put_in_order-clause-cost_refused g c tells store =
    let s = g.R.Reads.state c.args.space.now in
    let now = g.R.Reads.state c.find_bucket.new.space in
    let after = g.R.Reads.state c.gather.new.space in
    let same : SameButReads s now = reads_same 18 s now c.in_ok-bucket.ensures.at_most in
    let hashed = c.hash_of-hash.ensures in
    let found = subst (IsBucketSought s.records store.indexes.definitions c.args.label c.args.key c.hash_of-hash.result) c.in-Some.is
    (c.in_ok-bucket.ensures.found tells (wanted_in s.records) store.indexes) in
    let xs = entries s store c.args.label c.args.key c.args.value.now c.hash_of-hash.result hashed c.in-Some.bucket found now same in
    let are = are_entries s store c.args.label c.args.key c.args.value.now c.hash_of-hash.result hashed c.in-Some.bucket found now same in
    reads_exit c.args.label c.args.key c.args.value.now s after c.from_residual-in_err-put_in_order.result c.in_err-put_in_order.field-0.0
    c.from_residual-in_err-put_in_order.ensures.1
    (inl (lookup_reads s store c.args.label c.args.key c.args.value.now c.hash_of-hash.result hashed c.in-Some.bucket found now same after
    (c.in_ok-bucket.ensures.cost tells (wanted_in s.records) store.indexes) (c.in_ok-nodes.ensures.cost tells xs are)))

pub returns-in_err-bucket-clause-damaged : goal.returns-in_err-bucket-clause-damaged
returns-in_err-bucket-clause-damaged g c tells =
    let s = g.R.Reads.state c.args.space.now in
    let p = err_from_is_err_and c.from_residual.result c.from_residual.ensures.1 in
    rw (p.1, p.2) (read_lookup s.records s.shape c.in_err-bucket.field-0.0 (c.in_err-bucket.ensures.damaged tells))

pub returns-in_err-nodes-clause-damaged : goal.returns-in_err-nodes-clause-damaged
returns-in_err-nodes-clause-damaged g c tells =
    let s = g.R.Reads.state c.args.space.now in
    let now = g.R.Reads.state c.find_bucket.new.space in
    let same : SameButReads s now = reads_same 18 s now c.in_ok-bucket.ensures.at_most in
    let number = bucket_of c.hash_of-hash.result in
    let bucket = c.in-Some.bucket in
    let met = subst (IfBucketMet s.records c.args.label c.args.key number) c.in-Some.is (c.in_ok-bucket.ensures.met tells) in
    let at = subst (IsEntryAt now met.definition number 0 bucket.first) (sym c.out_of_range-named.ensures)
    (entry_reread s now met.definition number 0 bucket.first _ same (entry_begins s c.args.label c.args.key number bucket met)) in
    let p = err_from_is_err_and c.from_residual-in_err-nodes.result c.from_residual-in_err-nodes.ensures.1 in
    rw (p.1, p.2) (read_lookup s.records s.shape c.in_err-nodes.field-0.0 (blames_before s now c.in_err-nodes.field-0.0 same
    (c.in_err-nodes.ensures.damaged tells met.definition number at)))

pub returns-in_err-put_in_order-clause-damaged : goal.returns-in_err-put_in_order-clause-damaged
returns-in_err-put_in_order-clause-damaged g c tells =
    let s = g.R.Reads.state c.args.space.now in
    let p = err_from_is_err_and c.from_residual-in_err-put_in_order.result c.from_residual-in_err-put_in_order.ensures.1 in
    rw (p.1, p.2) (read_lookup s.records s.shape c.in_err-put_in_order.field-0.0 (subst (blaming.BlamesBroken s.records s.shape)
    (sym c.in_err-put_in_order.ensures.memory) tt))

pub returns-in_err-bucket-clause-caused : goal.returns-in_err-bucket-clause-caused
returns-in_err-bucket-clause-caused g c tells =
    caused_exit (g.R.Reads.state c.args.space.now).records c.args.label c.args.key c.from_residual.result c.in_err-bucket.field-0.0 c.from_residual.ensures.1

pub returns-in_default-clause-caused : goal.returns-in_default-clause-caused
returns-in_default-clause-caused g c tells =
    subst (λ (o : Option Bucket). IfNone o (LeadsToNone (g.R.Reads.state c.args.space.now).records c.args.label c.args.key)) c.in_default.is
    (c.in_ok-bucket.ensures.lacks tells)

pub returns-in_err-nodes-clause-caused : goal.returns-in_err-nodes-clause-caused
returns-in_err-nodes-clause-caused g c tells =
    caused_exit (g.R.Reads.state c.args.space.now).records c.args.label c.args.key c.from_residual-in_err-nodes.result c.in_err-nodes.field-0.0
    c.from_residual-in_err-nodes.ensures.1

pub returns-in_err-put_in_order-clause-caused : goal.returns-in_err-put_in_order-clause-caused
returns-in_err-put_in_order-clause-caused g c tells =
    caused_exit (g.R.Reads.state c.args.space.now).records c.args.label c.args.key c.from_residual-in_err-put_in_order.result c.in_err-put_in_order.field-0.0
    c.from_residual-in_err-put_in_order.ensures.1

pub returns-in_err-nodes-clause-onward : goal.returns-in_err-nodes-clause-onward
returns-in_err-nodes-clause-onward g c =
    g.met.R.Reads.further_onward _ _ _ c.in_ok-bucket.ensures.onward c.in_err-nodes.ensures.onward

pub returns-in_err-put_in_order-clause-onward : goal.returns-in_err-put_in_order-clause-onward
returns-in_err-put_in_order-clause-onward g c =
    g.met.R.Reads.further_onward _ _ _ c.in_ok-bucket.ensures.onward c.in_ok-nodes.ensures.onward

pub returns-clause-onward : goal.returns-clause-onward
returns-clause-onward g c =
    g.met.R.Reads.further_onward _ _ _ c.in_ok-bucket.ensures.onward c.in_ok-nodes.ensures.onward

pub returns-in_err-bucket-clause-found : goal.returns-in_err-bucket-clause-found
returns-in_err-bucket-clause-found g c _ _ = never_ok c.from_residual.result _ _ c.from_residual.ensures.1

pub returns-in_err-bucket-clause-graph : goal.returns-in_err-bucket-clause-graph
returns-in_err-bucket-clause-graph g c _ _ _ = never_ok c.from_residual.result _ _ c.from_residual.ensures.1

pub returns-in_err-bucket-clause-cost : goal.returns-in_err-bucket-clause-cost
returns-in_err-bucket-clause-cost g c _ _ = never_ok c.from_residual.result _ _ c.from_residual.ensures.1

pub returns-in_err-bucket-clause-onward : goal.returns-in_err-bucket-clause-onward
returns-in_err-bucket-clause-onward g c = search rules

pub returns-in_err-nodes-clause-found : goal.returns-in_err-nodes-clause-found
returns-in_err-nodes-clause-found g c _ _ = never_ok c.from_residual-in_err-nodes.result _ _ c.from_residual-in_err-nodes.ensures.1

pub returns-in_err-nodes-clause-graph : goal.returns-in_err-nodes-clause-graph
returns-in_err-nodes-clause-graph g c _ _ _ = never_ok c.from_residual-in_err-nodes.result _ _ c.from_residual-in_err-nodes.ensures.1

pub returns-in_err-nodes-clause-cost : goal.returns-in_err-nodes-clause-cost
returns-in_err-nodes-clause-cost g c _ _ = never_ok c.from_residual-in_err-nodes.result _ _ c.from_residual-in_err-nodes.ensures.1

pub returns-in_err-put_in_order-clause-found : goal.returns-in_err-put_in_order-clause-found
returns-in_err-put_in_order-clause-found g c _ _ = never_ok c.from_residual-in_err-put_in_order.result _ _ c.from_residual-in_err-put_in_order.ensures.1

pub returns-in_err-put_in_order-clause-graph : goal.returns-in_err-put_in_order-clause-graph
returns-in_err-put_in_order-clause-graph g c _ _ _ = never_ok c.from_residual-in_err-put_in_order.result _ _ c.from_residual-in_err-put_in_order.ensures.1

pub returns-in_err-put_in_order-clause-cost : goal.returns-in_err-put_in_order-clause-cost
returns-in_err-put_in_order-clause-cost g c _ _ = never_ok c.from_residual-in_err-put_in_order.result _ _ c.from_residual-in_err-put_in_order.ensures.1

pub returns-clause-cause : goal.returns-clause-cause
returns-clause-cause g c = ok_cause _ _ _ _ (omega arith)
