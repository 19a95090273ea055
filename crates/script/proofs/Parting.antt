-- The first word of a text, by the places where it begins and ends.
use Rattle.std.proofs.Common.{◌≡◌, ℕ, ◌+◌, ◌<◌, ◌≤◌, Bool, true, false, not, ◌||◌, cond, ltb, List, [], ◌∷◌, length, take, drop, Some, None, inl, inr, refl, ap, sym, ◌∙◌, add_comm, add-one, arith}
use Rattle.std.specs.List.{slice_split, onto_first, list_any, position, position_or_len}
use Rattle.std.specs.Option.{unwrap_or}
use Rattle.std.proofs.lemmas.Bool.{ltb-true, lt-ltb, le-ltb, cases_lt}
use Rattle.std.proofs.lemmas.List.{drop_all, take_all}
use Rattle.std.proofs.lemmas.List.Sums.{prefix_len-le-length}
use Rattle.std.proofs.lemmas.Option.{cond_some}
use Rattle.std.proofs.lemmas.Grind.{common_steps}
use Rattle.std.proofs.lemmas.List.Splits.{slice_split-cons_yes, slice_split-cons_no, slice_split_first}
use Rattle.script.specs.Pieces.{present}
use Rattle.script.specs.Reading.{and_then, one, two}

-- the places of a list's front, from 0
dropped : (k : ℕ) (b : ℕ) (bs : List ℕ) → drop (1 + k) (b ∷ bs) ≡ drop k bs
dropped k b bs = ap (λ n. drop n (b ∷ bs)) (add_comm 1 k ∙ add-one k)

taken : (k : ℕ) (b : ℕ) (bs : List ℕ) → take (1 + k) (b ∷ bs) ≡ b ∷ take k bs
taken k b bs = ap (λ n. take n (b ∷ bs)) (add_comm 1 k ∙ add-one k)

kept : (piece : List ℕ) (pieces : List (List ℕ)) (b : ℕ) (bs : List ℕ) → piece ≡ b ∷ bs → present (piece ∷ pieces) ≡ piece ∷ present pieces
kept piece pieces b bs e = rw e refl

module _ (p : ℕ → Bool) where
  -- what stands between the marks, where there is something
  abbrev words : List ℕ → List (List ℕ)
  words text = present (slice_split p text)

  -- the marks before the first word
  abbrev marks : List ℕ → ℕ
  marks text = position_or_len (λ b. not (p b)) text

  behind_marks : (text : List ℕ) → words (drop (marks text) text) ≡ words text
  behind_marks [] = refl
  behind_marks (b ∷ bs) =
      elim (p b) as (λ e. p b ≡ e → words (drop (cond (not (not e)) (1 + marks bs) 0) (b ∷ bs)) ≡ words (b ∷ bs)) [
        | true ↦ λ e. ap words (dropped _ b bs) ∙ (behind_marks bs ∙ sym (ap present (slice_split-cons_yes p b bs e)))
        | false ↦ λ e. refl
      ] refl

  -- the pieces behind the first one
  abbrev others : List ℕ → List (List ℕ)
  others [] = []
  others (b ∷ bs) = slice_split p bs

  first_piece : (text : List ℕ) → slice_split p text ≡ take (position_or_len p text) text ∷ others (drop (position_or_len p text) text)
  first_piece [] = refl
  first_piece (b ∷ bs) =
      elim (p b) as (λ e. p b ≡ e → slice_split p (b ∷ bs) ≡ take (cond (not e) (1 + position_or_len p bs) 0) (b ∷ bs) ∷ others (drop (cond (not e) (1 + position_or_len p bs) 0) (b ∷ bs))) [
        | true ↦ λ e. slice_split-cons_yes p b bs e
        | false ↦ λ e. slice_split-cons_no p b bs e ∙ (ap (onto_first b) (first_piece bs) ∙ (λ i. sym (taken (position_or_len p bs) b bs) i ∷ others (sym (dropped (position_or_len p bs) b bs) i)))
      ] refl

  others_words : (text : List ℕ) → present (others (drop (position_or_len p text) text)) ≡ words (drop (position_or_len p text) text)
  others_words [] = refl
  others_words (b ∷ bs) =
      elim (p b) as (λ e. p b ≡ e → present (others (drop (cond (not e) (1 + position_or_len p bs) 0) (b ∷ bs))) ≡ words (drop (cond (not e) (1 + position_or_len p bs) 0) (b ∷ bs))) [
        | true ↦ λ e. sym (ap present (slice_split-cons_yes p b bs e))
        | false ↦ λ e. rw (dropped (position_or_len p bs) b bs) (others_words bs)
      ] refl

  -- no word is left where each byte is a mark
  pub none_left : (text : List ℕ) → position (λ b. not (p b)) text ≡ None → words text ≡ []
  none_left text e =
      let past : length text ≤ marks text = grind (arith, common_steps) in
      sym (behind_marks text) ∙ ap words (drop_all (marks text) text past)

  abbrev end : List ℕ → ℕ
  end text = unwrap_or (position p text) (length text)

  end_is : (text : List ℕ) → end text ≡ position_or_len p text
  end_is text = grind (arith, common_steps, prefix_len-le-length)

  first_letter : (text : List ℕ) → marks text < length text → words (drop (marks text) text) ≡ take (position_or_len p (drop (marks text) text)) (drop (marks text) text) ∷ words (drop (position_or_len p (drop (marks text) text)) (drop (marks text) text))
  first_letter [] l = absurd (omega arith)
  first_letter (b ∷ bs) l =
      elim (p b) as (λ e. p b ≡ e → cond (not (not e)) (1 + marks bs) 0 < length (b ∷ bs) → let rest = drop (cond (not (not e)) (1 + marks bs) 0) (b ∷ bs) in words rest ≡ take (position_or_len p rest) rest ∷ words (drop (position_or_len p rest) rest)) [
        | true ↦ λ e m. rw (dropped (marks bs) b bs) (first_letter bs (omega arith))
        | false ↦ λ e m.
            ap present (first_piece (b ∷ bs))
            ∙ kept _ _ b (take (position_or_len p bs) bs) (rw e (taken (position_or_len p bs) b bs))
            ∙ ap (λ l. take (position_or_len p (b ∷ bs)) (b ∷ bs) ∷ l) (others_words (b ∷ bs))
      ] refl l

  pub first_word : (text : List ℕ) (i : ℕ) → position (λ b. not (p b)) text ≡ Some i → words text ≡ take (end (drop i text)) (drop i text) ∷ words (drop (end (drop i text)) (drop i text))
  first_word text i e =
      let at = cond_some (ltb (marks text) (length text)) (marks text) i e in
      rw (sym at.1) (rw (end_is (drop (marks text) text)) (sym (behind_marks text) ∙ first_letter text (ltb-true _ _ at.0)))

  any_is : (text : List ℕ) → list_any p text ≡ ltb (position_or_len p text) (length text)
  any_is [] = refl
  any_is (b ∷ bs) =
      elim (p b) as (λ e. (e || list_any p bs) ≡ ltb (cond (not e) (1 + position_or_len p bs) 0) (length (b ∷ bs))) [
        | true ↦ sym (lt-ltb 0 (length (b ∷ bs)) (omega arith))
        | false ↦ any_is bs ∙ grind arith
      ]

  one_is : (text : List ℕ) → one (slice_split p text) ≡ cond (list_any p text) None (Some text)
  one_is text =
      let k = position_or_len p text in
      let answer = λ (t : Bool) (e : ltb k (length text) ≡ t). sym (ap (λ u. cond u None (Some text)) (any_is text ∙ e)) in
      elim (cases_lt k (length text)) [
        | inl l ↦ ap one (slice_split_first p text 0 l) ∙ (ap (λ ps. one (take k text ∷ ps)) (first_piece (drop (k + 1) text)) ∙ answer true (lt-ltb k (length text) l))
        | inr g ↦ ap one (first_piece text) ∙ (rw (take_all k text g) (rw (drop_all k text g) refl) ∙ answer false (le-ltb k (length text) g))
      ]

  pub no_halves : (text : List ℕ) → position p text ≡ None → two (slice_split p text) ≡ None
  no_halves text e =
      let past : length text ≤ position_or_len p text = grind (arith, common_steps) in
      ap two (first_piece text) ∙ rw (drop_all (position_or_len p text) text past) refl

  pub halves : (text : List ℕ) (i : ℕ) → position p text ≡ Some i → two (slice_split p text) ≡ cond (list_any p (drop (i + 1) text)) None (Some (take i text, drop (i + 1) text))
  halves text i e =
      let at = cond_some (ltb (position_or_len p text) (length text)) (position_or_len p text) i e in
      let back = drop (position_or_len p text + 1) text in
      let front = take (position_or_len p text) text in
      rw (sym at.1) (ap two (slice_split_first p text 0 (ltb-true _ _ at.0)) ∙ rw (one_is back)
      (elim (list_any p back) as (λ t. and_then {Y = List ℕ × List ℕ} (cond t None (Some back)) (λ y. Some (front, y)) ≡ cond t None (Some (front, back))) [ true ↦ refl | false ↦ refl ]))
