use Rattle.std.proofs.Common.{◌≡◌, ◌-◌, ◌+◌, ◌<◌, ℕ, Bool, false, true, List, ◌∷◌, drop, get_or, length, sym, ap, ◌∙◌, subst, arith}
use Rattle.std.specs.List.{list_all}
use Rattle.std.proofs.lemmas.List.{drop_all, drop_more, get_or-map, length-append, length-map}
use Rattle.rec_bytes.specs.declared.meta.Meta.{Meta}
use Rattle.rec_bytes.specs.Space.{State, after_gets}
use Rattle.store_rules.specs.Breaking.{Breaks}
use Rattle.rec_bytes.proofs.Spaces.{after_gets-zero}
use Rattle.rel_store.specs.declared.edge_row.EdgeRow.{EdgeRow}
use Rattle.rel_store.specs.Loading.{rel_mark}
use Rattle.chain_edit.specs.Walking.{IsSoundWalk, ReadsAtMost}
use Rattle.expand.specs.declared.first_links.FirstLink.{FirstLink}
use Rattle.expand.specs.Expanding.{Blames}
use Rattle.expand.specs.FirstLinks.{belongs, numbers_of}
use Rattle.expand.specs.Walking.{AreSoundWalks, AreWalks}
use Rattle.expand.proofs.BrokenChains.{more_stood, no_link, none_stood, stray_breaks, walk_breaks}
use Rattle.expand.proofs.ChainWalks.{AreLeft, HaveMet, all_met, chain_left, chain_met, few_met, few_more, mark_bounds, none_met, reads_more, rest_left}
use Rattle.group_store.proofs.GroupWalks.{reads_none}
use Rattle.rec_bytes.proofs.Causes.{never_ok, ok_cause}
use Rattle.chain_edit.proofs.Causes.{same_has}
use Rattle.expand.proofs.Causes.{expand_memory_cause}
use Rattle.expand.proofs.walking.walk_all.Goals as goal

-- the first link at a place
first_here : (links : List FirstLink) (at : ℕ) → at < length links → get_or (numbers_of links) at 0 ≡ (get_or links at no_link).first
first_here links at lt = get_or-map (λ (link : FirstLink). link.first) links at no_link 0 lt

numbers_long : (links : List FirstLink) → length (numbers_of links) ≡ length links
numbers_long links = length-map links (λ (link : FirstLink). link.first)

-- what is left begins with it
links_here : (links : List FirstLink) (at : ℕ) → at < length links → drop at (numbers_of links) ≡ (get_or links at no_link).first ∷ drop (at + 1)
    (numbers_of links)
links_here links at lt = drop_more (numbers_of links) at 0 (let e = numbers_long links in omega arith)
    ∙ ap (λ f. f ∷ drop (at + 1) (numbers_of links)) (first_here links at lt)

-- walks that are left begin with its chain
left_at : (s : State) (node at n budget : ℕ) (links : List FirstLink) → at < length links → budget ≡ rel_mark s - n
    → AreLeft s node (drop at (numbers_of links)) (rel_mark s - n) → AreLeft s node ((get_or links at no_link).first ∷ drop (at + 1) (numbers_of links)) budget
left_at s node at n budget links low is left = subst (λ most. AreLeft s node ((get_or links at no_link).first ∷ drop (at + 1) (numbers_of links)) most) (sym is)
    (subst (λ fs. AreLeft s node fs (rel_mark s - n)) (links_here links at low) left)

pub loop-link-init : goal.loop-link-init
loop-link-init g c =
    let s = g.R.Reads.state c.args.space.now in
    let none = c.new-rows.ensures.items in
    let long : rel_mark s ≡ rel_mark s - length c.new-rows.result.items = let empty = ap length none in omega arith in
    record {
      met = λ tells. rw none (none_met s c.args.node (numbers_of c.args.links.now));
      stood = λ tells. rw none (none_stood s c.args.node c.args.links.now no_link);
      left = λ tells xs sound. (xs, subst (λ n. AreSoundWalks s c.args.node (numbers_of c.args.links.now) n xs) long sound);
      read = rw none (sym (after_gets-zero s));
      most = reads_none s (rel_mark s);
      onward = g.met.R.Reads.stays_onward c.args.space.now;
      later = omega arith;
    }

-- a chain's rows as they are tested
all_is : (link : FirstLink) (node : ℕ) (chain slice : List EdgeRow) (result value : Bool) → slice ≡ chain → result ≡ list_all (belongs link node) slice
    → result ≡ value → list_all (belongs link node) chain ≡ value
all_is link node chain slice result value same is told = ap (list_all (belongs link node)) (sym same) ∙ sym is ∙ told

pub loop-link-preserved : goal.loop-link-preserved
loop-link-preserved g c =
    let s = g.R.Reads.state c.args.space.now in
    let now = g.R.Reads.state c.loop-link.space in
    let new = g.R.Reads.state c.walk.new.space in
    let n = c.args.node in
    let links = c.args.links.now in
    let firsts = numbers_of links in
    let at = c.loop-link.link-index in
    let rows = c.loop-link.rows.items in
    let chain = c.in-Ok.chain.items in
    let both = c.add_chain.new.rows.items in
    let link = get_or links at no_link in
    let marked = ap (λ (meta : Meta). meta.high) c.meta-mark.ensures in
    let budget : c.saturating_sub-budget.result ≡ rel_mark s - length rows = let left = c.saturating_sub-budget.ensures in let len = c.len.ensures in
    omega (arith, left, len, marked) in
    let more = c.in_ok-add_chain.ensures in
    let low : at < length links = c.loop-link-test.true in
    let here = links_here links at low in
    record {
      met = λ tells. rw more (chain_met s now (length rows) n link.first c.saturating_sub-budget.result firsts (drop (at + 1) firsts)
          rows chain c.loop-link.invariant.read
          (c.in-Ok.ensures.rows tells) (subst (λ left. HaveMet s n firsts left rows) here (c.loop-link.invariant.met tells)));
      stood = λ tells. rw more (more_stood s now (length rows) n at c.saturating_sub-budget.result links no_link c.loop-link.invariant.read low chain
          (c.in-Ok.ensures.rows tells) rows
          (all_is link n chain c.deref.result.now c.all_belong.result true c.deref.ensures.value c.all_belong.ensures c.if-not-all_belong.false)
          (c.loop-link.invariant.stood tells));
      left = λ tells xs sound. rest_left s now (length rows) n link.first c.saturating_sub-budget.result (rel_mark s - length both) (drop (at + 1) firsts) chain
          c.loop-link.invariant.read
          (let long = ap length more ∙ length-append rows chain in omega (arith, long, budget)) (c.in-Ok.ensures.rows tells)
          (left_at s n at (length rows) c.saturating_sub-budget.result links low budget (c.loop-link.invariant.left tells xs sound));
      read = reads_more s now new rows chain both more c.loop-link.invariant.read c.in-Ok.ensures.reads;
      most = mark_bounds s now new (length rows) (rel_mark s) c.saturating_sub-budget.result budget c.loop-link.invariant.read c.loop-link.invariant.most
          c.walk.ensures.at_most;
      onward = g.met.R.Reads.further_onward c.args.space.now c.loop-link.space c.walk.new.space c.loop-link.invariant.onward c.walk.ensures.onward;
      later = let cause = c.walk.ensures.cause in omega (arith, c.loop-link.invariant.later, cause.later);
    }

-- ---- reads of a chain more

-- no more than walks that end meet
few_here : (s now new : State) (node at budget : ℕ) (links : List FirstLink) (rows : List EdgeRow) (xs : List ℕ) → at < length links
    → now ≡ after_gets (length rows) s → budget ≡ rel_mark s - length rows
    → HaveMet s node (numbers_of links) (drop at (numbers_of links)) rows → AreLeft s node (drop at (numbers_of links)) (rel_mark s - length rows)
    → AreWalks s.records node (numbers_of links) xs
    → ((ys : List ℕ) → IsSoundWalk now (get_or links at no_link).first node budget ys → ReadsAtMost (length ys) now new) → ReadsAtMost (length xs) s new
few_here s now new node at budget links rows xs low reads is met left walks few =
    let here = links_here links at low in
    let rest = left_at s node at (length rows) budget links low is left in
    let next = chain_left s now (length rows) node (get_or links at no_link).first budget (drop (at + 1) (numbers_of links)) reads rest in
    few_more s now new node budget (numbers_of links) ((get_or links at no_link).first ∷ drop (at + 1) (numbers_of links)) rows xs
    (subst (λ fs. HaveMet s node (numbers_of links) fs rows) here met) rest walks reads
    (length next.members) next.few (few next.members next.sound)

pub returns-in-Err-clause-few_reads : goal.returns-in-Err-clause-few_reads
returns-in-Err-clause-few_reads g c = λ tells xs sound.
    let s = g.R.Reads.state c.args.space.now in
    let now = g.R.Reads.state c.loop-link.space in
    let new = g.R.Reads.state c.walk.new.space in
    let n = c.args.node in
    let links = c.args.links.now in
    let at = c.loop-link.link-index in
    let rows = c.loop-link.rows.items in
    let marked = ap (λ (meta : Meta). meta.high) c.meta-mark.ensures in
    let budget : c.saturating_sub-budget.result ≡ rel_mark s - length rows = let left = c.saturating_sub-budget.ensures in let len = c.len.ensures in
    omega (arith, left, len, marked) in
    let low : at < length links = c.loop-link-test.true in
    few_here s now new n at c.saturating_sub-budget.result links rows xs low c.loop-link.invariant.read budget (c.loop-link.invariant.met tells)
    (c.loop-link.invariant.left tells xs sound) sound.walks (c.in-Err.ensures.few_reads tells)

pub returns-in-Err-clause-at_most : goal.returns-in-Err-clause-at_most
returns-in-Err-clause-at_most g c =
    let s = g.R.Reads.state c.args.space.now in
    let now = g.R.Reads.state c.loop-link.space in
    let new = g.R.Reads.state c.walk.new.space in
    let n = c.args.node in
    let links = c.args.links.now in
    let at = c.loop-link.link-index in
    let rows = c.loop-link.rows.items in
    let marked = ap (λ (meta : Meta). meta.high) c.meta-mark.ensures in
    let budget : c.saturating_sub-budget.result ≡ rel_mark s - length rows = let left = c.saturating_sub-budget.ensures in let len = c.len.ensures in
    omega (arith, left, len, marked) in
    mark_bounds s now new (length rows) (rel_mark s) c.saturating_sub-budget.result budget c.loop-link.invariant.read c.loop-link.invariant.most
    c.in-Err.ensures.at_most

pub returns-then-not-all_belong-clause-few_reads : goal.returns-then-not-all_belong-clause-few_reads
returns-then-not-all_belong-clause-few_reads g c = λ tells xs sound.
    let s = g.R.Reads.state c.args.space.now in
    let now = g.R.Reads.state c.loop-link.space in
    let new = g.R.Reads.state c.walk.new.space in
    let n = c.args.node in
    let links = c.args.links.now in
    let at = c.loop-link.link-index in
    let rows = c.loop-link.rows.items in
    let marked = ap (λ (meta : Meta). meta.high) c.meta-mark.ensures in
    let budget : c.saturating_sub-budget.result ≡ rel_mark s - length rows = let left = c.saturating_sub-budget.ensures in let len = c.len.ensures in
    omega (arith, left, len, marked) in
    let low : at < length links = c.loop-link-test.true in
    few_here s now new n at c.saturating_sub-budget.result links rows xs low c.loop-link.invariant.read budget (c.loop-link.invariant.met tells)
    (c.loop-link.invariant.left tells xs sound) sound.walks (c.in-Ok.ensures.few_reads tells)

pub returns-then-not-all_belong-clause-at_most : goal.returns-then-not-all_belong-clause-at_most
returns-then-not-all_belong-clause-at_most g c =
    let s = g.R.Reads.state c.args.space.now in
    let now = g.R.Reads.state c.loop-link.space in
    let new = g.R.Reads.state c.walk.new.space in
    let n = c.args.node in
    let links = c.args.links.now in
    let at = c.loop-link.link-index in
    let rows = c.loop-link.rows.items in
    let marked = ap (λ (meta : Meta). meta.high) c.meta-mark.ensures in
    let budget : c.saturating_sub-budget.result ≡ rel_mark s - length rows = let left = c.saturating_sub-budget.ensures in let len = c.len.ensures in
    omega (arith, left, len, marked) in
    mark_bounds s now new (length rows) (rel_mark s) c.saturating_sub-budget.result budget c.loop-link.invariant.read c.loop-link.invariant.most
    c.in-Ok.ensures.at_most

pub returns-in_err-add_chain-clause-few_reads : goal.returns-in_err-add_chain-clause-few_reads
returns-in_err-add_chain-clause-few_reads g c = λ tells xs sound.
    let s = g.R.Reads.state c.args.space.now in
    let now = g.R.Reads.state c.loop-link.space in
    let new = g.R.Reads.state c.walk.new.space in
    let n = c.args.node in
    let links = c.args.links.now in
    let at = c.loop-link.link-index in
    let rows = c.loop-link.rows.items in
    let marked = ap (λ (meta : Meta). meta.high) c.meta-mark.ensures in
    let budget : c.saturating_sub-budget.result ≡ rel_mark s - length rows = let left = c.saturating_sub-budget.ensures in let len = c.len.ensures in
    omega (arith, left, len, marked) in
    let low : at < length links = c.loop-link-test.true in
    few_here s now new n at c.saturating_sub-budget.result links rows xs low c.loop-link.invariant.read budget (c.loop-link.invariant.met tells)
    (c.loop-link.invariant.left tells xs sound) sound.walks (c.in-Ok.ensures.few_reads tells)

pub returns-in_err-add_chain-clause-at_most : goal.returns-in_err-add_chain-clause-at_most
returns-in_err-add_chain-clause-at_most g c =
    let s = g.R.Reads.state c.args.space.now in
    let now = g.R.Reads.state c.loop-link.space in
    let new = g.R.Reads.state c.walk.new.space in
    let n = c.args.node in
    let links = c.args.links.now in
    let at = c.loop-link.link-index in
    let rows = c.loop-link.rows.items in
    let marked = ap (λ (meta : Meta). meta.high) c.meta-mark.ensures in
    let budget : c.saturating_sub-budget.result ≡ rel_mark s - length rows = let left = c.saturating_sub-budget.ensures in let len = c.len.ensures in
    omega (arith, left, len, marked) in
    mark_bounds s now new (length rows) (rel_mark s) c.saturating_sub-budget.result budget c.loop-link.invariant.read c.loop-link.invariant.most
    c.in-Ok.ensures.at_most

-- ---- what is damaged

pub returns-in-Err-clause-damaged : goal.returns-in-Err-clause-damaged
returns-in-Err-clause-damaged g c = λ tells of.
    let s = g.R.Reads.state c.args.space.now in
    let now = g.R.Reads.state c.loop-link.space in
    let new = g.R.Reads.state c.walk.new.space in
    let n = c.args.node in
    let links = c.args.links.now in
    let at = c.loop-link.link-index in
    let rows = c.loop-link.rows.items in
    let marked = ap (λ (meta : Meta). meta.high) c.meta-mark.ensures in
    let budget : c.saturating_sub-budget.result ≡ rel_mark s - length rows = let left = c.saturating_sub-budget.ensures in let len = c.len.ensures in
    omega (arith, left, len, marked) in
    let low : at < length links = c.loop-link-test.true in
    subst (Blames s) (sym c.with_node.ensures)
    (walk_breaks s now (length rows) n at c.saturating_sub-budget.result links no_link c.loop-link.invariant.read low of rows budget
    (c.loop-link.invariant.stood tells) c.in-Err.fault (c.in-Err.ensures.damaged tells))

pub returns-then-not-all_belong-clause-damaged : goal.returns-then-not-all_belong-clause-damaged
returns-then-not-all_belong-clause-damaged g c = λ tells of.
    let s = g.R.Reads.state c.args.space.now in
    let now = g.R.Reads.state c.loop-link.space in
    let n = c.args.node in
    let links = c.args.links.now in
    let at = c.loop-link.link-index in
    let rows = c.loop-link.rows.items in
    let low : at < length links = c.loop-link-test.true in
    let chain = c.in-Ok.chain.items in
    let stray = all_is (get_or links at no_link) n chain c.deref.result.now c.all_belong.result false c.deref.ensures.value c.all_belong.ensures
    c.if-not-all_belong.true in
    subst (Breaks s.records s.shape) (sym c.chains_damage.ensures) (stray_breaks s now (length rows) n at c.saturating_sub-budget.result links no_link
    c.loop-link.invariant.read low chain (c.in-Ok.ensures.rows tells) of stray)

-- ---- the end

pub returns-clause-rows : goal.returns-clause-rows
returns-clause-rows g c = λ tells.
    let links = c.args.links.now in
    all_met (g.R.Reads.state c.args.space.now) c.args.node (numbers_of links) (drop c.loop-link.link-index (numbers_of links)) c.loop-link.rows.items
    (drop_all c.loop-link.link-index (numbers_of links) (let long = numbers_long links in omega arith)) (c.loop-link.invariant.met tells)

pub returns-clause-few_reads : goal.returns-clause-few_reads
returns-clause-few_reads g c = λ tells xs sound.
    let s = g.R.Reads.state c.args.space.now in
    let links = c.args.links.now in
    let rows = c.loop-link.rows.items in
    few_met s (g.R.Reads.state c.loop-link.space) c.args.node (rel_mark s - length rows) (numbers_of links) (drop c.loop-link.link-index (numbers_of links))
    rows xs
    (c.loop-link.invariant.met tells) (c.loop-link.invariant.left tells xs sound) sound.walks c.loop-link.invariant.read

pub returns-in_err-add_chain-clause-rows : goal.returns-in_err-add_chain-clause-rows
returns-in_err-add_chain-clause-rows g c _ = never_ok c.from_residual.result _ _ c.from_residual.ensures.1

pub returns-in_err-add_chain-clause-reads : goal.returns-in_err-add_chain-clause-reads
returns-in_err-add_chain-clause-reads g c = never_ok c.from_residual.result _ _ c.from_residual.ensures.1

pub returns-clause-cause : goal.returns-clause-cause
returns-clause-cause g c = ok_cause _ _ _ _ (omega arith)

pub returns-in_err-add_chain-clause-damaged : goal.returns-in_err-add_chain-clause-damaged
returns-in_err-add_chain-clause-damaged g c _ _ = same_has _ c.from_residual.result _ c.from_residual.ensures.1 tt

pub returns-in_err-add_chain-clause-onward : goal.returns-in_err-add_chain-clause-onward
returns-in_err-add_chain-clause-onward g c = g.met.R.Reads.further_onward _ _ _ c.loop-link.invariant.onward c.walk.ensures.onward

pub returns-in_err-add_chain-clause-cause : goal.returns-in_err-add_chain-clause-cause
returns-in_err-add_chain-clause-cause g c =
    let later = c.walk.ensures.cause.later in
    expand_memory_cause _ _ c.from_residual.result (omega (arith, c.loop-link.invariant.later, later)) c.from_residual.ensures.1
