mod StandardFacts
