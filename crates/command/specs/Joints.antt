-- The four angles of a pose, in its text and in its bits.
use Rattle.std.specs.Prelude.{◌≡◌, ℕ, List, [], ◌∷◌, ◌++◌, from_bits, refl, Float}
use Rattle.std.proofs.Common.{sym, ap, ◌∙◌, subst, append-nil, get_or}
use Rattle.std.specs.Float.{binary32}
use Rattle.std.specs.Float.Ieee.{of_int, fits}
use Rattle.std.specs.Float.Ieee.Bits.{is_true}
use Rattle.std.specs.Float.Ieee.Fits.{of_int-fits}
use Rattle.pose.specs.declared.poses.PoseBits.{PoseBits}
use Rattle.pose.specs.Bits.{angle_bits, bits_of}
use Rattle.pose.specs.Texts.{angle_text, pose_text, Plain, PlainJoint, PlainPose}
use Rattle.pose.proofs.Patterns.{angle_back}
use Rattle.command.specs.Words.{spaced_of, AllLawful, Spelled}
use Rattle.command.specs.Rows.{same_words, all_places}
use Rattle.command.specs.Signs.{degrees_of, angle_spaceless, angle_distinct}

-- the four angles of a pose
abbrev pub angles_of : PoseBits → List Float
angles_of b = from_bits binary32 b.joint0 ∷ from_bits binary32 b.joint1 ∷ from_bits binary32 b.joint2 ∷ from_bits binary32 b.joint3 ∷ []

-- the text of four angles, each after a single space
row_text : (x y z w : Float) → spaced_of angle_text (x ∷ y ∷ z ∷ w ∷ []) ++ [] ≡ 32 ∷ (angle_text x ++ 32 ∷ (angle_text y ++ 32 ∷ (angle_text z ++ 32 ∷ angle_text w)))
row_text x y z w = append-nil (spaced_of angle_text (x ∷ y ∷ z ∷ w ∷ [])) ∙ ap (λ t. 32 ∷ (angle_text x ++ 32 ∷ (angle_text y ++ 32 ∷ (angle_text z ++ 32 ∷ t)))) (append-nil (angle_text w))

-- the angles of a pose stand in its text
pub angles_stand : (b : PoseBits) (s : List ℕ) → PlainPose b → s ≡ 32 ∷ pose_text b → Spelled Plain angle_text 4 s (angles_of b) []
angles_stand b s p e = record { many = refl; each = (p.0.0, (p.1.0.0, (p.1.1.0.0, (p.1.1.1.0, tt)))); apart = e ∙ sym (row_text _ _ _ _); after = tt }

-- a plain angle has bits of its own
own_bits : (x : Float) → Plain x → from_bits binary32 (angle_bits x) ≡ x
own_bits x p =
    let d = degrees_of x p in
    angle_back x (ap (fits binary32) d.1.angle ∙ is_true (fits binary32 (of_int binary32 d.0)) (of_int-fits binary32 d.0))

plain_joint : (x : Float) → Plain x → PlainJoint (angle_bits x)
plain_joint x p = let e = own_bits x p in (subst Plain (sym e) p, ap angle_bits (sym e))

abbrev bits4 : ℕ → ℕ → ℕ → ℕ → PoseBits
bits4 i j k l = record { joint0 = i; joint1 = j; joint2 = k; joint3 = l }

-- four angles that were read are those of their pose
pub pose_read : (d : Float) (s : List ℕ) (xs : List Float) → Spelled Plain angle_text 4 s xs [] → let b = bits_of (record { joint0 = get_or xs 0 d; joint1 = get_or xs 1 d; joint2 = get_or xs 2 d; joint3 = get_or xs 3 d }) in PlainPose b × (s ≡ 32 ∷ pose_text b)
pose_read d s xs h =
    let each = subst (AllLawful Plain) (all_places d 4 xs h.many) h.each in
    let text = h.apart ∙ ap (λ ys. spaced_of angle_text ys ++ []) (all_places d 4 xs h.many) ∙ row_text _ _ _ _ in (
      (plain_joint _ each.0, (plain_joint _ each.1.0, (plain_joint _ each.1.1.0, plain_joint _ each.1.1.1.0))),
      text ∙ alike_text (sym (own_bits _ each.0)) (sym (own_bits _ each.1.0)) (sym (own_bits _ each.1.1.0)) (sym (own_bits _ each.1.1.1.0)),
    )
  where
    alike_text : {x y z w x' y' z' w' : Float} → x ≡ x' → y ≡ y' → z ≡ z' → w ≡ w' → 32 ∷ (angle_text x ++ 32 ∷ (angle_text y ++ 32 ∷ (angle_text z ++ 32 ∷ angle_text w))) ≡ 32 ∷ (angle_text x' ++ 32 ∷ (angle_text y' ++ 32 ∷ (angle_text z' ++ 32 ∷ angle_text w')))
    alike_text p q r t = cc

-- a pose is known by its angles
alike : (b d : PoseBits) → PlainPose b → PlainPose d → angles_of b ≡ angles_of d → b ≡ d
alike b d p q e =
    let e0 : from_bits binary32 b.joint0 ≡ from_bits binary32 d.joint0 = cc in
    let e1 : from_bits binary32 b.joint1 ≡ from_bits binary32 d.joint1 = cc in
    let e2 : from_bits binary32 b.joint2 ≡ from_bits binary32 d.joint2 = cc in
    let e3 : from_bits binary32 b.joint3 ≡ from_bits binary32 d.joint3 = cc in
    same (joint b.joint0 d.joint0 p.0 q.0 e0) (joint b.joint1 d.joint1 p.1.0 q.1.0 e1) (joint b.joint2 d.joint2 p.1.1.0 q.1.1.0 e2) (joint b.joint3 d.joint3 p.1.1.1 q.1.1.1 e3)
  where
    joint : (i j : ℕ) → PlainJoint i → PlainJoint j → from_bits binary32 i ≡ from_bits binary32 j → i ≡ j
    joint i j p q e = p.1 ∙ ap angle_bits e ∙ sym q.1

    same : {i j k l i' j' k' l' : ℕ} → i ≡ i' → j ≡ j' → k ≡ k' → l ≡ l' → bits4 i j k l ≡ bits4 i' j' k' l'
    same p q r t = cc

-- a pose is known by its text
pub pose_distinct : (b d : PoseBits) → PlainPose b → PlainPose d → pose_text b ≡ pose_text d → b ≡ d
pose_distinct b d p q e =
    let s = 32 ∷ pose_text b in
    let f = angles_stand b s p refl in
    let g = angles_stand d s q (ap (λ x. 32 ∷ x) e) in
    alike b d p q (same_words Plain angle_text angle_spaceless angle_distinct 4 s _ _ _ _ f g).0
