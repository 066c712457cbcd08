mod OpenFacts
mod ShownFacts
