-- Walks by their last edge, and in two parts.
use Rattle.std.proofs.Common.{◌≡◌, ◌≤◌, ℕ, zero, suc, true, List, [], ◌∷◌, ◌++◌, length, Contains, refl, sym, ap, subst, ◌∙◌, arith}
use Rattle.plain_graph.specs.Adjacency.{Adjacency}
use Rattle.plain_graph.specs.Walks.{LeadsTo}

module _ (near : Adjacency) where
  -- on by one edge
  pub LeadsTo-push : (later : List ℕ) (at to node : ℕ) → LeadsTo near at later to → Contains (near.next to) node → near.is_node node ≡ true
      → LeadsTo near at (later ++ node ∷ []) node
  LeadsTo-push [] at to node leads next is = (leads.0, subst (λ n. Contains (near.next n) node) (sym leads.1) next, (is, refl))
  LeadsTo-push (first ∷ later) at to node leads next is = (leads.0, leads.1, LeadsTo-push later first to node leads.2 next is)

  -- a walk of some edges has a last one
  pub record HasLastEdge (at : ℕ) (walk : List ℕ) (to : ℕ) : Type 0 where
    pub before : List ℕ
    pub from : ℕ
    pub is : walk ≡ before ++ to ∷ []
    pub leads : LeadsTo near at before from
    pub edge : Contains (near.next from) to

  pub last_edge : (later : List ℕ) (at node to : ℕ) → LeadsTo near at (node ∷ later) to → HasLastEdge at (node ∷ later) to
  last_edge [] at node to leads = record {
    before = [];
    from = at;
    is = ap (λ n. n ∷ []) leads.2.1;
    leads = (leads.0, refl);
    edge = subst (λ n. Contains (near.next at) n) leads.2.1 leads.1;
  }
  last_edge (next ∷ later) at node to leads =
      let rest = last_edge later node next to leads.2 in
      record {
        before = node ∷ rest.before;
        from = rest.from;
        is = ap (λ (list : List ℕ). node ∷ list) rest.is;
        leads = (leads.0, leads.1, rest.leads);
        edge = rest.edge;
      }

  -- one walk after another
  pub LeadsTo-append : (first second : List ℕ) (at mid to : ℕ) → LeadsTo near at first mid → LeadsTo near mid second to → LeadsTo near at (first ++ second) to
  LeadsTo-append [] second at mid to leads then = subst (λ n. LeadsTo near n second to) (sym leads.1) then
  LeadsTo-append (node ∷ first) second at mid to leads then = (leads.0, leads.1, LeadsTo-append first second node mid to leads.2 then)

  -- the nodes of a walk say where it ends
  pub one_end : (later : List ℕ) (at to other : ℕ) → LeadsTo near at later to → LeadsTo near at later other → to ≡ other
  one_end [] at to other leads also = sym leads.1 ∙ also.1
  one_end (node ∷ later) at to other leads also = one_end later node to other leads.2 also.2

  -- a walk in two parts, the first of so many edges
  pub record HasParts (at : ℕ) (walk : List ℕ) (to count : ℕ) : Type 0 where
    pub before : List ℕ
    pub mid : ℕ
    pub after : List ℕ
    pub is : walk ≡ before ++ after
    pub long : length before ≡ count
    pub leads : LeadsTo near at before mid
    pub rest : LeadsTo near mid after to

  pub parts : (count : ℕ) (walk : List ℕ) (at to : ℕ) → LeadsTo near at walk to → count ≤ length walk → HasParts at walk to count
  parts zero walk at to leads few = record {
    before = [];
    mid = at;
    after = walk;
    is = refl;
    long = refl;
    leads = (start walk at to leads, refl);
    rest = leads;
  }
    where
      start : (walk : List ℕ) (at to : ℕ) → LeadsTo near at walk to → near.is_node at ≡ true
      start [] at to leads = leads.0
      start (node ∷ later) at to leads = leads.0
  parts (suc count) [] at to leads few = absurd (omega (arith, few))
  parts (suc count) (node ∷ later) at to leads few =
      let two = parts count later node to leads.2 (omega (arith, few)) in
      let long = two.long in
      record {
        before = node ∷ two.before;
        mid = two.mid;
        after = two.after;
        is = ap (λ (list : List ℕ). node ∷ list) two.is;
        long = ap suc long;
        leads = (leads.0, leads.1, two.leads);
        rest = two.rest;
      }
