-- The names of the two forms in the code.
use Rattle.layout.specs.declared.Form.{Form}
use Rattle.layout.specs.declared.Form.TheVariants.{Mpb1, Mpb2}
use Rattle.layout.specs.Layout as layout

abbrev pub meant : Form → layout.Form
meant Mpb1 = layout.mpb1
meant Mpb2 = layout.mpb2
