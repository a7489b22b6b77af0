-- What a picture says in words at its beginning. Numbers are plain decimal.
use Rattle.std.specs.Prelude.{ℕ, List, ◌++◌, codes, decimal}
use Rattle.picture_scene.specs.declared.walk.Kind.{Kind}
use Rattle.picture_scene.specs.declared.walk.Kind.TheVariants.{InRounds, Run, Worst}

-- the element of a picture of this size, in pixels
abbrev pub element : ℕ → ℕ → List ℕ
element width height =
    codes "<svg xmlns='http://www.w3.org/2000/svg' viewBox='0 0 " ++ decimal width
    ++ codes " " ++ decimal height
    ++ codes "' font-family='system-ui, sans-serif' font-size='12' fill='#1b1b1b' role='img'>\n"

-- its page
abbrev pub page : ℕ → ℕ → List ℕ
page width height =
    codes "<rect class='page' fill='#ffffff' width='" ++ decimal width
    ++ codes "' height='" ++ decimal height ++ codes "'/>\n"

-- the title of a walk with this name, which takes so many word times
abbrev pub title : List ℕ → ℕ → List ℕ
title name time =
    codes "<title>" ++ name ++ codes ": " ++ decimal time ++ codes " word times</title>\n"

-- the same in large letters, at this height of the page
abbrev pub large : ℕ → List ℕ → ℕ → List ℕ
large base name time =
    codes "<text font-size='27' font-weight='600' x='28' y='" ++ decimal base ++ codes "'>"
    ++ name ++ codes " " ++ decimal time ++ codes " word times</text>\n"

-- and below it a ceiling
abbrev pub ceiling_line : ℕ → List ℕ
ceiling_line ceiling =
    codes "<text font-size='15' font-weight='600' x='29' y='64'>ceiling " ++ decimal ceiling
    ++ codes " word times</text>\n"

-- What is said of a walk of this kind that takes so many word times: the title, and, on the page,
-- the bound, or what a walk in rounds takes, with its ceiling, or what a run takes.
abbrev pub heading : Kind → ℕ → List ℕ → List ℕ
heading Worst time paper =
    title (codes "The worst walk") time ++ paper ++ large 46 (codes "bound") time
heading (InRounds ceiling) time paper =
    title (codes "A walk in rounds") time ++ paper
    ++ large 40 (codes "reached") time ++ ceiling_line ceiling
heading (Run verdict) time paper =
    title (codes "A run") time ++ paper ++ large 40 (codes "run") time
