-- The values taken into a cut one after the other give the least or the greatest over the rows that hold its day.
use Rattle.std.proofs.Common.{◌≡◌, ℕ, Bool, true, false, cond, List, [], ◌∷◌, ◌++◌, map, ℤ, pos, fold, sym, refl, ap, ◌∙◌}
use Rattle.std.proofs.lemmas.List.Elements.{filter-append}
use Rattle.std.proofs.lemmas.List.{append-nil, append_assoc, map_push}
use Rattle.std.proofs.lemmas.List.Sums.{fold_push}
use Rattle.relation.specs.declared.rows.Row.{Row}
use Rattle.relation.specs.Rows.{holds}
use Rattle.collect.specs.Areas.{bare}
use Rattle.cuts.specs.declared.bests.Extreme.{Extreme}
use Rattle.cuts.specs.Amounts.{valued, held, best}
use Rattle.cuts.specs.Bests.{better, kept_at, kept_by_row, kept_by_rows}
use Rattle.cuts.specs.Cuts.{cut_row}

-- 1 where there is some row
abbrev pub mark : List Row → ℤ
mark [] = pos 0
mark (w ∷ ws) = pos 1

module _ (e : Extreme) (x d : ℕ) where
  -- the cut once some rows are taken in
  abbrev pub taken : List Row → Row
  taken hs = cut_row d (mark hs) (best (better e) (map (valued x) hs))

  one_more : (hs : List Row) (w : Row) → kept_at e (valued x w) (taken hs) ≡ taken (hs ++ (w ∷ []))
  one_more [] w = refl
  one_more (h ∷ hs) w =
      ap (cut_row d (pos 1)) (sym (fold_push (better e) (valued x h) (map (valued x) hs) (valued x w)) ∙ ap (fold (better e) (valued x h)) (sym (map_push (valued x) hs w)))

  by_row : (us : List Row) (w : Row) → kept_by_row e (valued x w) w (taken (held us d)) ≡ taken (held (us ++ (w ∷ [])) d)
  by_row us w =
      step (holds (bare w) d) ∙ ap taken (sym (filter-append (λ r. holds (bare r) d) us (w ∷ [])))
    where
      step : (b : Bool) → cond b (kept_at e (valued x w) (taken (held us d))) (taken (held us d)) ≡ taken (held us d ++ cond b (w ∷ []) [])
      step true = one_more (held us d) w
      step false = ap taken (sym (append-nil (held us d)))

  by_rows : (us ws : List Row) → kept_by_rows e x ws (taken (held us d)) ≡ taken (held (us ++ ws) d)
  by_rows us [] = ap (λ l. taken (held l d)) (sym (append-nil us))
  by_rows us (w ∷ ws) =
      ap (kept_by_rows e x ws) (by_row us w) ∙ by_rows (us ++ (w ∷ [])) ws ∙ ap (λ l. taken (held l d)) (append_assoc us (w ∷ []) ws)

  pub bests_are : (ws : List Row) → kept_by_rows e x ws (cut_row d (pos 0) (pos 0)) ≡ taken (held ws d)
  bests_are ws = by_rows [] ws
