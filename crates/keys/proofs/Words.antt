-- Lists of numbers as keys: the laws of an equality and of a total order.
use Rattle.std.proofs.Common.{◌≡◌, ℕ, true, List, Ordering, Equal, sym, ap, ◌∙◌, subst}
use Rattle.std.specs.Cmp.{IsTotalOrder, Equal-is, nat_eq_equiv, nat_cmp_total, unsigned_ties}
use Rattle.std.specs.Ordering.{is_eq, ordering_reverse, nat_cmp}
use Rattle.std.specs.Cmp.Lexicographic.{bytes_decides, lists_equiv, lists_total, lists_ties}
use Rattle.keys.specs.Keys.{Compares}
use Rattle.keys.specs.Words.{same_words, word_order}

pub words_self : (xs : List ℕ) → same_words xs xs ≡ true
words_self = (lists_equiv nat_eq_equiv).refl

pub words_is : (xs ys : List ℕ) → same_words xs ys ≡ true → xs ≡ ys
words_is xs ys = (bytes_decides xs ys).0

pub words_sym : (xs ys : List ℕ) → same_words xs ys ≡ true → same_words ys xs ≡ true
words_sym xs ys e = (lists_equiv nat_eq_equiv).symm ys xs ∙ e

pub words_trans : (xs ys zs : List ℕ) → same_words xs ys ≡ true → same_words ys zs ≡ true → same_words xs zs ≡ true
words_trans xs ys zs e f = (lists_equiv nat_eq_equiv).congr xs ys zs e ∙ f

pub order_tie : (xs ys : List ℕ) → word_order xs ys ≡ Equal → xs ≡ ys
order_tie xs ys e = words_is xs ys (lists_ties nat_cmp unsigned_ties xs ys ∙ ap is_eq e)

pub order_self : (xs : List ℕ) → word_order xs xs ≡ Equal
order_self xs = (Equal-is (word_order xs xs)).0 (sym (lists_ties nat_cmp unsigned_ties xs xs) ∙ words_self xs)

-- keys that are told apart by one list of numbers, and ordered by another
module _ {K : Type 0} (words ranked : K → List ℕ) (by_words : (x y : K) → words x ≡ words y → ranked x ≡ ranked y) (by_ranked : (x y : K) → ranked x ≡ ranked y → words x ≡ words y) where
  pub compares : (x y : K) (r : Ordering) → r ≡ word_order (ranked x) (ranked y)
      → Compares (λ a b. same_words (words a) (words b)) (λ a b. word_order (ranked a) (ranked b)) x y r
  compares x y r e =
      let total : IsTotalOrder word_order = lists_total nat_cmp_total in
      record {
        value = e;
        tie = λ t. subst (λ ws. same_words (words x) ws ≡ true) (by_ranked x y (order_tie (ranked x) (ranked y) (sym e ∙ t))) (words_self (words x));
        tied = λ s. e ∙ subst (λ rs. word_order (ranked x) rs ≡ Equal) (by_words x y (words_is (words x) (words y) s)) (order_self (ranked x));
        alike = λ z s. ap (λ rs. word_order rs (ranked y)) (sym (by_words x z (words_is (words x) (words z) s))) ∙ sym e;
        turns = total.antisymm (ranked y) (ranked x) ∙ ap ordering_reverse (sym e);
        climbs = λ z l m. total.trans (ranked x) (ranked y) (ranked z) (sym e ∙ l) m;
      }
