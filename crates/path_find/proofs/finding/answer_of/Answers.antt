use Rattle.std.proofs.Common.{◌≡◌, ℕ, true, not, List, Vec, length, Contains, refl, sym, ap, subst, ◌∙◌, arith}
use Rattle.std.specs.List.{filter}
use Rattle.std.proofs.lemmas.Bool.{lt-leb}
use Rattle.std.specs.declared.alloc.Global.{Global}
use Rattle.plain_graph.specs.Levels.{level_of}
use Rattle.plain_graph.specs.Reached.{IsAnswer}
use Rattle.plain_graph.specs.declared.node_level.NodeLevel.{NodeLevel}
use Rattle.store_rules.proofs.Members.{filter_contains, image_contains}
use Rattle.path_find.specs.Checking.{edges_of}
use Rattle.path_find.specs.Costs.{is_nearer, nearer_nodes}
use Rattle.path_find.specs.Reading.{node_of}
use Rattle.path_find.specs.Tree.{level_at, node_at, way_to}
use Rattle.path_find.proofs.TreeWalks.{length-way_to}
use Rattle.path_find.proofs.FoundAnswers.{found_answer, no_answer}
use Rattle.path_find.proofs.finding.answer_of.Goals as goal
use Rattle.path_find.proofs.finding.answer_of.Goals.{in-Some+in_ok-walk-in-Some, in-None}

pub returns-clause-is : goal.returns-clause-is
returns-clause-is c = λ near from has.
    let rows = c.args.tree.now in
    let to = c.args.to in
    let levels = c.in_ok-levels.levels.items in
    let are = c.in_ok-levels.ensures in
    let walk : IsAnswer near from to c.match-find.walk.items levels = elim c.match-find.branch [
      | in-Some+in_ok-walk-in-Some w ↦
          subst (λ list. IsAnswer near from to list levels) (sym (ap (λ (v : Vec ℕ Global). v.items) w.walk-is ∙ w.in_ok-walk-in-Some.ensures))
          (found_answer near rows from to has.searched has.spans w.in-Some.row w.in-Some.ensures.low w.in-Some.ensures.is levels are)
      | in-None w ↦
          subst (λ list. IsAnswer near from to list levels) (sym (ap (λ (v : Vec ℕ Global). v.items) w.walk-is ∙ w.new-walk.ensures.items))
          (no_answer near rows from to has.searched has.spans w.in-None.ensures.none levels are)
    ] in
    subst (λ list. IsAnswer near from to list c.new-2.result) (sym c.new.ensures)
    (subst (IsAnswer near from to c.match-find.walk.items) (sym c.new-2.ensures) walk)

pub returns-clause-nearer : goal.returns-clause-nearer
returns-clause-nearer c = λ done nearer i few low.
    let rows = c.args.tree.now in
    let tree = c.requires.tree in
    let levels = c.in_ok-levels.levels.items in
    let are = c.in_ok-levels.ensures in
    let at = level_of (node_at rows i) (level_at rows i) in
    let told : is_nearer (edges_of c.match-find.walk.items) at ≡ true = elim c.match-find.branch [
      | in-Some+in_ok-walk-in-Some w ↦
          let row = w.in-Some.row in
          let long = length-way_to rows c.requires.done tree (level_at rows row) row in
          let less = nearer row i w.in-Some.ensures.low w.in-Some.ensures.is few low in
          subst (λ list. is_nearer (edges_of list) at ≡ true) (sym (ap (λ (v : Vec ℕ Global). v.items) w.walk-is ∙ w.in_ok-walk-in-Some.ensures))
          (ap not (lt-leb (length (way_to rows (level_at rows row) row)) (level_at rows i) (omega (arith, long, less))))
      | in-None w ↦
          subst (λ list. is_nearer (edges_of list) at ≡ true) (sym (ap (λ (v : Vec ℕ Global). v.items) w.walk-is ∙ w.new-walk.ensures.items)) refl
    ] in
    let kept = filter_contains (is_nearer (edges_of c.match-find.walk.items)) levels at (are.all i low) told in
    subst (λ list. Contains (nearer_nodes list c.new-2.result) (node_at rows i)) (sym c.new.ensures)
    (subst (λ (told : List NodeLevel). Contains (nearer_nodes c.match-find.walk.items told) (node_at rows i)) (sym c.new-2.ensures)
    (image_contains node_of (filter (is_nearer (edges_of c.match-find.walk.items)) levels) at kept))
