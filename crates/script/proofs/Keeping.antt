-- Items that are read one by one are the items of the whole list.
use Rattle.std.proofs.Common.{◌≡◌, ℕ, ◌≤◌, cond, ltb, leb, List, [], ◌∷◌, ◌++◌, length, set, Some, None, Option, sym, refl, ap, ◌∙◌, inl, inr, arith}
use Rattle.std.proofs.lemmas.List.{append-nil, append_assoc, length-append, length_push}
use Rattle.std.proofs.lemmas.Bool.{lt-ltb, le-ltb, le-leb, lt-leb, cond-true, cond-false, cases_lt}
use Rattle.table.specs.Arguments.{with_argument}
use Rattle.table.specs.declared.arguments.Arguments.{Arguments}
use Rattle.table.specs.declared.node.Term.TheVariants.{Constant}
use Rattle.script.specs.Facts.{place}
use Rattle.script.specs.Items.{with_items}
use Rattle.script.specs.Lists.{each, first_three, up_to_255, ItemsKept, ListsKept}
use Rattle.script.specs.Nodes.{term}
use Rattle.script.specs.Numbers.{wide}
use Rattle.script.specs.Reading.{and_then}

module _ {X : Type 0} (item : List ℕ → Option X) (filler : X) where
  -- one item more at its place
  three_more : (xs : List X) (x : X) → set (first_three filler xs) (length xs) x ≡ first_three filler (xs ++ x ∷ [])
  three_more [] x = refl
  three_more (a ∷ []) x = refl
  three_more (a ∷ (b ∷ [])) x = refl
  three_more (a ∷ (b ∷ (c ∷ rest))) x = refl

  abbrev kept : List X → Arguments X
  kept xs = record { count = length xs; first = first_three filler xs }

  -- the next count and the next places, put together
  one_kept : (xs : List X) (x : X) → with_argument (kept xs) x ≡ cond (ltb (length xs) 255) (Some (kept (xs ++ x ∷ []))) None
  one_kept xs x = ap (λ (v : Arguments X). cond (ltb (length xs) 255) (Some v) None) (λ i. record { count = sym (length_push xs x) i; first = three_more xs x i })

  abbrev behind : List X → Option (List X) → Option (Arguments X)
  behind xs o = and_then o (λ ys. up_to_255 kept (xs ++ ys))

  shifted : (xs : List X) (x : X) (o : Option (List X)) → behind (xs ++ x ∷ []) o ≡ behind xs (and_then o (λ ys. Some (x ∷ ys)))
  shifted xs x None = refl
  shifted xs x (Some ys) = ap (up_to_255 kept) (append_assoc xs (x ∷ []) ys)

  full : (xs : List X) (x : X) (o : Option (List X)) → 255 ≤ length xs → None ≡ behind xs (and_then o (λ ys. Some (x ∷ ys)))
  full xs x None h = refl
  full xs x (Some ys) h =
      sym (cond-false (leb (length (xs ++ x ∷ ys)) 255) (Some (kept (xs ++ x ∷ ys))) None (lt-leb (length (xs ++ x ∷ ys)) 255 (omega (arith, length-append xs (x ∷ ys)))))

  one_read : (xs : List X) (o : Option X) (ts : List (List ℕ)) → ((zs : List X) → length zs ≤ 255 → with_items item (kept zs) ts ≡ behind zs (each item ts)) → and_then (and_then o (with_argument (kept xs))) (λ list. with_items item list ts) ≡ behind xs (and_then o (λ x. and_then (each item ts) (λ ys. Some (x ∷ ys))))
  one_read xs None ts rest = refl
  one_read xs (Some x) ts rest = elim (cases_lt (length xs) 255) [
    | inl l ↦
        ap (λ o. and_then o (λ list. with_items item list ts)) (one_kept xs x ∙ cond-true (ltb (length xs) 255) (Some (kept (xs ++ x ∷ []))) None (lt-ltb (length xs) 255 l))
        ∙ rest (xs ++ x ∷ []) (omega (arith, length_push xs x))
        ∙ shifted xs x (each item ts)
    | inr g ↦
        ap (λ o. and_then o (λ list. with_items item list ts)) (one_kept xs x ∙ cond-false (ltb (length xs) 255) (Some (kept (xs ++ x ∷ []))) None (le-ltb (length xs) 255 g))
        ∙ full xs x (each item ts) g
  ]

  gathered : (xs : List X) (ts : List (List ℕ)) → length xs ≤ 255 → with_items item (kept xs) ts ≡ behind xs (each item ts)
  gathered xs [] h = sym (ap (up_to_255 kept) (append-nil xs) ∙ cond-true (leb (length xs) 255) (Some (kept xs)) None (le-leb (length xs) 255 h))
  gathered xs (t ∷ ts) h = one_read xs (item t) ts (λ zs l. gathered zs ts l)

  pub items_kept : ItemsKept item filler
  items_kept ts = gathered [] ts (omega arith)

pub lists_kept : ListsKept
lists_kept = (items_kept wide 0, items_kept place None, items_kept term (Constant 0))
