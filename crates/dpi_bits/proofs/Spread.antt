-- The bits of a list that is raised and cut.
use Rattle.std.proofs.Common.{◌≡◌, ℕ, ◌+◌, ◌-◌, ◌<◌, ◌≤◌, List, ◌++◌, length, get_or, drop, replicate, ap, sym, ◌∙◌, arith, length-append, length-drop}
use Rattle.std.proofs.lemmas.List.{ext_get_or, length-replicate, length-take, get_or-take, get_or-drop, get_or_past, get_or_append_left, get_or-append_right, get_or-replicate}
use Rattle.dpi_bits.specs.declared.bit.Bit.{Bit}
use Rattle.dpi_bits.specs.declared.bit.Bit.TheVariants.{Zero}
use Rattle.dpi_bits.specs.Parts.{spread}

module _ (bits : List Bit) (start back : ℕ) (outside : Bit) (width : ℕ) where
  raised : List Bit
  raised = replicate back outside ++ bits

  length-raised : length (drop start (replicate back outside ++ bits)) ≡ back + length bits - start
  length-raised = length-drop start (replicate back outside ++ bits) ∙ ap (λ n. n - start) (length-append (replicate back outside) bits ∙ ap (λ n. n + length bits) (length-replicate back outside))

  pub length-spread : length (spread bits start back outside width) ≡ width
  unfolding spread
  length-spread =
      length-take width (drop start (replicate back outside ++ bits) ++ replicate width outside)
      ∙ omega (arith, length-append (drop start (replicate back outside ++ bits)) (replicate width outside), length-replicate width outside)

  pub spread_out : (i : ℕ) (d : Bit) → width ≤ i → get_or (spread bits start back outside width) i d ≡ d
  spread_out i d h = get_or_past (spread bits start back outside width) i d (rw length-spread h)

  near : (i : ℕ) (d : Bit) → i < width → i < back + length bits - start → get_or (spread bits start back outside width) i d ≡ get_or (replicate back outside ++ bits) (start + i) d
  unfolding spread
  near i d h k =
      get_or-take width (drop start (replicate back outside ++ bits) ++ replicate width outside) i d h
      ∙ get_or_append_left (drop start (replicate back outside ++ bits)) (replicate width outside) d i (rw length-raised k)
      ∙ get_or-drop start (replicate back outside ++ bits) i d

  pub spread_before : (i : ℕ) (d : Bit) → i < width → start + i < back → get_or (spread bits start back outside width) i d ≡ outside
  spread_before i d h k =
      near i d h (omega arith)
      ∙ get_or_append_left (replicate back outside) bits d (start + i) (rw (length-replicate back outside) k)
      ∙ get_or-replicate back (start + i) outside d k

  pub spread_within : (i : ℕ) (d : Bit) → i < width → back ≤ start + i → start + i - back < length bits → get_or (spread bits start back outside width) i d ≡ get_or bits (start + i - back) d
  spread_within i d h k l =
      near i d h (omega arith)
      ∙ get_or-append_right (replicate back outside) bits back (start + i) d (length-replicate back outside) k

  pub spread_past : (i : ℕ) (d : Bit) → i < width → back ≤ start + i → length bits ≤ start + i - back → get_or (spread bits start back outside width) i d ≡ outside
  unfolding spread
  spread_past i d h k l =
      get_or-take width (drop start (replicate back outside ++ bits) ++ replicate width outside) i d h
      ∙ get_or-append_right (drop start (replicate back outside ++ bits)) (replicate width outside) (back + length bits - start) i d length-raised (omega arith)
      ∙ get_or-replicate width (i - (back + length bits - start)) outside d (omega arith)

-- where the window meets no bit, each bit is the one outside
pub spread_all_past : (bits : List Bit) (start : ℕ) (outside : Bit) (width : ℕ) → length bits ≤ start → spread bits start 0 outside width ≡ replicate width outside
spread_all_past bits start outside width h =
    ext_get_or Zero (spread bits start 0 outside width) (replicate width outside) (length-spread bits start 0 outside width ∙ sym (length-replicate width outside))
    (λ i k.
    let l : i < width = omega (arith, length-spread bits start 0 outside width) in
    spread_past bits start 0 outside width i Zero l (omega arith) (omega arith) ∙ sym (get_or-replicate width i outside Zero l))

pub spread_all_before : (bits : List Bit) (back : ℕ) (outside : Bit) (width : ℕ) → width ≤ back → spread bits 0 back outside width ≡ replicate width outside
spread_all_before bits back outside width h =
    ext_get_or Zero (spread bits 0 back outside width) (replicate width outside) (length-spread bits 0 back outside width ∙ sym (length-replicate width outside))
    (λ i k.
    let l : i < width = omega (arith, length-spread bits 0 back outside width) in
    spread_before bits 0 back outside width i Zero l (omega arith) ∙ sym (get_or-replicate width i outside Zero l))

-- the whole list
pub spread_whole : (bits : List Bit) (outside : Bit) (width : ℕ) → length bits ≡ width → spread bits 0 0 outside width ≡ bits
spread_whole bits outside width e =
    ext_get_or Zero (spread bits 0 0 outside width) bits (length-spread bits 0 0 outside width ∙ sym e)
    (λ i k.
    let l : i < width = omega (arith, length-spread bits 0 0 outside width) in
    spread_within bits 0 0 outside width i Zero l (omega arith) (omega arith) ∙ ap (λ j. get_or bits j Zero) (omega arith))
